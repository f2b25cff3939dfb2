use Rattle.std.proofs.Common.{◌≡◌, ◌-◌, ◌*◌, ◌≤◌}
use Rattle.std.specs.Prelude.{sum_by}
use Rattle.brake_base.specs.Masks.{numbers_to}
use Rattle.sheet_page.specs.Left.{left_of}
use Rattle.sheet_page.proofs.left.strokes_left.Given as goal

-- the strokes so far, at most 12 of a bend
abbrev pub invariant-loop-bend : goal.invariant-loop-bend
invariant-loop-bend l = record {
  value : l.count ≡ sum_by (left_of l.job l.mask l.notes) (numbers_to (l.bend - 1));
  few : l.count ≤ 12 * (l.bend - 1);
}
