-- Where the bend line of an action begins and ends.
use Rattle.std.proofs.Common.{◌≡◌, ◌∙◌, ℤ, ◌+ℤ◌, ◌-ℤ◌}
use Rattle.brake_base.specs.declared.mask.Mask.{Mask}
use Rattle.brake_base.specs.declared.stroke.Action.{Action}
use Rattle.brake_base.specs.Masks.{has}
use Rattle.fold_boxes.specs.Shapes.{ShapeData}
use Rattle.fold_boxes.specs.Groups.{span}
use Rattle.fold_boxes.specs.Pose.{PoseData, start_of_span}
use Rattle.job_setup.specs.Setup.{JobData, shape_of}
use Rattle.job_setup.specs.StageOf.{stage_of}
use Rattle.handling_cost.specs.Plan.{pose_before}
use Rattle.sheet_views.specs.Drawing.{bend_line}

pub line_is : (job : JobData) (mask : Mask) (action : Action) (pose : PoseData) (shape : ShapeData) (lines : ℤ × ℤ) (x0 x1 from to : ℤ) → pose ≡ pose_before job mask action → shape ≡ shape_of job → lines ≡ span shape (has pose.group)
    → x0 ≡ (stage_of job action.stage).x0 → x1 ≡ (stage_of job action.stage).x1 → from ≡ start_of_span lines x0 x1 → to ≡ from +ℤ (lines.1 -ℤ lines.0) → ◌≡◌ {A = ℤ × ℤ} (from, to) (bend_line job mask action)
line_is job mask action pose shape lines x0 x1 from to posed shaped spanned first last begins ends =
    let same = spanned ∙ (λ i. span (shaped i) (has (posed i).group)) in
    let start = begins ∙ (λ i. start_of_span (same i) (first i) (last i)) in
    let finish = ends ∙ (λ i. start i +ℤ ((same i).1 -ℤ (same i).0)) in
    λ i. (start i, finish i)
