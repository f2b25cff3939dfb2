-- The number of a refusal of the deduction.
use Rattle.std.specs.Prelude.{ℕ}
use Rattle.allowance.specs.declared.table.AllowFault.{AllowFault}
use Rattle.allowance.specs.declared.table.AllowFault.TheVariants.{NoRow, TwoRows}
use Rattle.allowance.specs.declared.table.AllowFault.TheVariants.{BelowHalfThickness}

-- the number of the refusal, which has no others of its own
abbrev pub allow_number : AllowFault → ℕ
allow_number NoRow = 1
allow_number TwoRows = 2
allow_number BelowHalfThickness = 3
