use Rattle.std.proofs.Common.{◌≡◌, ◌-◌, ◌++◌, flat_map}
use Rattle.brake_base.specs.Masks.{numbers_to}
use Rattle.sheet_page.specs.Refused.{left_row}
use Rattle.sheet_page.proofs.refusal_table.Refusals.put_left_rows.Given as goal

-- the rows so far
abbrev pub invariant-loop-bend : goal.invariant-loop-bend
invariant-loop-bend l = l.out.items ≡ l.fn.out.items ++ flat_map (left_row l.self.job.now l.self.mask l.self.notes.now) (numbers_to (l.bend - 1))
