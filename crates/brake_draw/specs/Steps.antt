-- The steps of a certificate, as the answers behind its job give them.
use Rattle.std.specs.Prelude.{Bool, true, false, nat_lt, List, [], ◌∷◌, ◌++◌, length, Result, Ok}
use Rattle.std.specs.Prelude.{Err, if◌then◌else◌}
use Rattle.brake_base.specs.declared.stroke.Step.{Step}
use Rattle.plan_lines.specs.declared.item.Item.{Item}
use Rattle.plan_lines.specs.declared.item.Item.TheVariants as given
use Rattle.plan_lines.specs.declared.item.CertFault.{CertFault}

-- a claim or a step, which stand before the rows
abbrev pub is_before_rows : Item → Bool
is_before_rows (given.Claim claim) = true
is_before_rows (given.Step step) = true
is_before_rows _ = false

-- the steps with that of an item, where it is one; a certificate has at most 12
abbrev pub with_step_of : List Step → Item → List Step
with_step_of steps (given.Step step) = if nat_lt (length steps) 12
    then steps ++ step ∷ []
    else steps
with_step_of steps _ = steps

-- the steps with those that answers give, up to the first that is neither a claim nor a step
unfoldable pub with_steps_of : List Step → List (Result Item CertFault) → List Step
with_steps_of steps [] = steps
with_steps_of steps (Err fault ∷ more) = steps
with_steps_of steps (Ok item ∷ more) = if is_before_rows item
    then with_steps_of (with_step_of steps item) more
    else steps
