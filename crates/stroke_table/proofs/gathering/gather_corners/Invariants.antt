use Rattle.std.proofs.Common.{◌≡◌, ◌+◌, ◌-◌, ◌≤◌, ◌++◌, length, map, filter}
use Rattle.std.specs.Prelude.{All}
use Rattle.std.specs.List.{range_with_len}
use Rattle.brake_base.specs.Masks.{has}
use Rattle.unfolder.specs.Blank.{face_numbers}
use Rattle.fold_boxes.specs.Posing.{IsNearPoseBox}
use Rattle.job_setup.specs.Setup.{stage_count}
use Rattle.stroke_table.specs.Codes.{AreLeastCodes, stroke_box}
use Rattle.stroke_table.specs.Gathering.{IsOfBoxBelow, IsPoseOf}
use Rattle.stroke_table.specs.Records.{AreKept}
use Rattle.stroke_table.proofs.gathering.gather_corners.Given as goal

abbrev pub invariant-loop-bend : goal.invariant-loop-bend
invariant-loop-bend l = record {
  kept : AreKept l.job l.kept;
  pose : IsPoseOf l.job l.stroke l.gathered.pose;
  codes : AreLeastCodes (stage_count l.job) (λ stage. IsOfBoxBelow l.job l.stroke.mask l.stroke.of stage (12 + l.bend)) l.gathered.codes.0;
  boxes : l.gathered.pose.boxes.items
      ≡ map (λ k. stroke_box l.job l.stroke.mask l.stroke.of k 0) (face_numbers l.job.part.faces) ++ map (λ b. stroke_box l.job l.stroke.mask l.stroke.of (12 + b) 0) (filter (has l.stroke.mask) (range_with_len 1 (l.bend - 1)));
  room : length l.gathered.pose.boxes.items ≤ 12 + l.bend;
  near : All IsNearPoseBox l.gathered.pose.boxes.items;
  places : l.gathered.pose.places.items ≡ l.initial.gathered.pose.places.items;
}
