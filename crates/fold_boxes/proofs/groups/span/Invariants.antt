use Rattle.std.proofs.Common.{◌≡◌, ◌-◌, filter}
use Rattle.std.specs.Prelude.{IfSome}
use Rattle.std.specs.List.{range_with_len}
use Rattle.brake_base.specs.Masks.{has}
use Rattle.fold_boxes.specs.Spans.{range_of_lines, IsNearRange}
use Rattle.fold_boxes.proofs.groups.span.Given as goal

abbrev pub invariant-loop-bend : goal.invariant-loop-bend
invariant-loop-bend l = record {
  value : l.range ≡ range_of_lines l.shape (filter (has l.group) (range_with_len 1 (l.bend - 1)));
  near : IfSome l.range IsNearRange;
}
