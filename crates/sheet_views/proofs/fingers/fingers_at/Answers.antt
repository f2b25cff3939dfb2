use Rattle.std.proofs.Common.{◌≡◌, ◌∙◌, ℕ, ◌<◌, List, length, get_or}
use Rattle.fold_boxes.specs.declared.posed_part.PoseBox.{PoseBox}
use Rattle.fold_boxes.specs.Posing.{IsNearPoseBox}
use Rattle.job_setup.specs.Setup.{JobData}
use Rattle.sheet_views.specs.declared.fingers.Fingers.{Fingers}
use Rattle.sheet_views.specs.Fingers.{fingers_against}
use Rattle.sheet_views.proofs.Kept.{same_at, all_at}
use Rattle.sheet_views.proofs.fingers.fingers_at.Goals as goal

pub fingers_against-requires-clause-left : goal.fingers_against-requires-clause-left
fingers_against-requires-clause-left c = all_at IsNearPoseBox c.args.pose.now.boxes.items c.as_slice-boxes.result.now c.from.result c.args.gauge.left_face _ c.as_slice-boxes.ensures.value c.from.ensures c.requires.left c.requires.near

pub fingers_against-requires-clause-right : goal.fingers_against-requires-clause-right
fingers_against-requires-clause-right c = all_at IsNearPoseBox c.args.pose.now.boxes.items c.as_slice-boxes.result.now c.from-2.result c.args.gauge.right_face _ c.as_slice-boxes.ensures.value c.from-2.ensures c.requires.right c.requires.near

-- the fingers against two boxes that are read are those against the boxes of the list
read_both : (job : JobData) (xs ys : List PoseBox) (i j f g : ℕ) (d d' e : PoseBox) (r : Fingers) → r ≡ fingers_against job (get_or ys i d) (get_or ys j d') → ys ≡ xs → i ≡ f → j ≡ g → f < length xs → g < length xs
    → r ≡ fingers_against job (get_or xs f e) (get_or xs g e)
read_both job xs ys i j f g d d' e r is same left right low high =
    is ∙ (λ k. fingers_against job (same_at xs ys i f d e same left low k) (same_at xs ys j g d' e same right high k))

pub returns-clause-value : goal.returns-clause-value
returns-clause-value c = λ default.
    read_both c.args.job.now c.args.pose.now.boxes.items c.as_slice-boxes.result.now c.from.result c.from-2.result c.args.gauge.left_face c.args.gauge.right_face _ _ default _ c.fingers_against.ensures.value c.as_slice-boxes.ensures.value c.from.ensures c.from-2.ensures
    c.requires.left c.requires.right
