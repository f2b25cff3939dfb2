-- The pose of an action that can be tried.
use Rattle.std.proofs.Common.{◌≡◌, ◌∙◌, ap, sym, subst}
use Rattle.brake_base.specs.declared.mask.Mask.{Mask}
use Rattle.brake_base.specs.declared.stroke.Action.{Action}
use Rattle.brake_base.specs.declared.stroke.Key.{Key}
use Rattle.brake_base.specs.Actions.{IsActionAmong}
use Rattle.fold_boxes.specs.Pose.{PoseData}
use Rattle.job_setup.specs.Setup.{JobData, bend_count, stage_count}
use Rattle.job_setup.specs.ValidJob.{IsJob}
use Rattle.handling_cost.specs.StepCost.{IsActionAt}
use Rattle.handling_cost.specs.Plan.{pose_before}
use Rattle.handling_cost.proofs.ActionGroups.{action_leads}
use Rattle.handling_cost.proofs.Actions.{few_bends}
use Rattle.plan_lines.specs.declared.note.Note.{Note}
use Rattle.cert_lines.specs.Lines.{action_at}
use Rattle.sheet_page.specs.Kept.{key_at, IsNoteAt}

-- it is an action of the job
pub action_among : (job : JobData) (key : Key) (action : Action) → IsActionAt job key action → IsActionAmong (bend_count job) (stage_count job) action
action_among job key action at = record { first = at.first; last = at.last; stage = at.stage }

-- the lead of its pose is its bend
pub pose_leads : (job : JobData) (key : Key) (action : Action) (pose : PoseData) → IsJob job → IsActionAt job key action → pose ≡ pose_before job key.mask action → pose.bend ≡ action.bend
pose_leads job key action pose is_job at is = ap (λ (p : PoseData). p.bend) is ∙ action_leads job (few_bends job is_job) key action at

-- the action of a note
pub note_at : (job : JobData) (mask : Mask) (note : Note) (key : Key) (action : Action) → key ≡ key_at mask → action ≡ action_at (stage_count job) note.action → IsNoteAt job mask note → IsActionAt job key action
note_at job mask note key action same is at =
    subst (λ (k : Key). IsActionAt job k action) (sym same) (subst (IsActionAt job (key_at mask)) (sym is) at.action)
