use Rattle.std.proofs.Common.{◌≡◌, length, map}
use Rattle.std.specs.Prelude.{All}
use Rattle.std.specs.List.{range_with_len}
use Rattle.brake_base.specs.Turns.{map_of}
use Rattle.fold_boxes.specs.Posing.{IsNearPoseBox}
use Rattle.job_setup.specs.Setup.{stage_count}
use Rattle.stroke_table.specs.Codes.{AreLeastCodes, stroke_box, stroke_place}
use Rattle.stroke_table.specs.Gathering.{IsOfBoxBelow, IsPoseOf}
use Rattle.stroke_table.specs.Records.{AreKept}
use Rattle.stroke_table.proofs.gathering.gather_faces.Given as goal

abbrev pub invariant-loop-number : goal.invariant-loop-number
invariant-loop-number l = record {
  kept : AreKept l.job l.kept;
  pose : IsPoseOf l.job l.stroke l.gathered.pose;
  codes : AreLeastCodes (stage_count l.job) (λ stage. IsOfBoxBelow l.job l.stroke.mask l.stroke.of stage l.number) l.gathered.codes.0;
  boxes : l.gathered.pose.boxes.items ≡ map (λ k. stroke_box l.job l.stroke.mask l.stroke.of k 0) (range_with_len 0 l.number);
  count : length l.gathered.pose.boxes.items ≡ l.number;
  near : All IsNearPoseBox l.gathered.pose.boxes.items;
  places : map map_of l.gathered.pose.places.items ≡ map (stroke_place l.job l.stroke.mask l.stroke.of) (range_with_len 0 l.number);
  placed : length l.gathered.pose.places.items ≡ l.number;
}
