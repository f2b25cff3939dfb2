use Rattle.std.proofs.Common.{◌≡◌, ◌-◌, false}
use Rattle.std.specs.Prelude.{nat_lt}
use Rattle.std.specs.List.{list_any}
use Rattle.brake_base.specs.Masks.{numbers_to}
use Rattle.sheet_page.specs.Kept.{count_in}
use Rattle.sheet_page.proofs.counts.occurs.Given as goal

-- no bend so far is refused for the kind
abbrev pub invariant-loop-bend : goal.invariant-loop-bend
invariant-loop-bend l = list_any (λ bend. nat_lt 0 (count_in l.counts bend l.kind)) (numbers_to (l.bend - 1)) ≡ false
