use Rattle.std.proofs.Common.{◌≡◌, ◌-◌, ◌++◌, flat_map}
use Rattle.brake_base.specs.Masks.{numbers_to}
use Rattle.sheet_page.specs.Counts.{count_row}
use Rattle.sheet_page.specs.Kept.{count_in}
use Rattle.sheet_page.proofs.counts.put_rows.Given as goal

-- the rows so far
abbrev pub invariant-loop-bend : goal.invariant-loop-bend
invariant-loop-bend l = l.out.items ≡ l.fn.out.items ++ flat_map (count_row l.job (count_in l.counts)) (numbers_to (l.bend - 1))
