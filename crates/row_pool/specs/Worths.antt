-- What a row holds of its worth.
use Rattle.std.specs.Prelude.{ℕ, Option, Some, None}
use Rattle.brake_base.specs.declared.stroke.Worth.{Worth}
use Rattle.brake_base.specs.declared.stroke.Worth.TheVariants.{Cost, Blocked}
use Rattle.row_pool.specs.declared.row.Found.{Found}
use Rattle.row_pool.specs.declared.row.Found.TheVariants as found
use Rattle.row_pool.specs.declared.row.Row.{Row}

-- what was found, with a cost
abbrev pub worth_with : Found → ℕ → Option Worth
worth_with found.Nothing cost = None
worth_with found.Cost cost = Some (Cost cost)
worth_with found.Blocked cost = Some Blocked

-- the worth of a row, if one was found, in tenths of a second
abbrev pub worth_of : Row → Option Worth
worth_of row = worth_with row.found row.cost
