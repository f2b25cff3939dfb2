use Rattle.std.proofs.Common.{◌≡◌, filter, None, Some}
use Rattle.std.specs.Prelude.{fold}
use Rattle.std.specs.List.{range_with_len}
use Rattle.fold_boxes.specs.Pose.{pose_data}
use Rattle.job_setup.specs.Setup.{shape_of}
use Rattle.sheet_words.specs.Reasons.{is_on_line, shorter, reach_of}
use Rattle.sheet_words.proofs.flanges.shortest.Given as goal

abbrev pub invariant-loop-face : goal.invariant-loop-face
invariant-loop-face l =
    l.least ≡ fold (λ least face. Some (shorter (reach_of (pose_data l.pose) l.half) least face)) None (filter (is_on_line (shape_of l.job) (pose_data l.pose) l.side) (range_with_len 0 l.face))
