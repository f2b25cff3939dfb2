use Rattle.std.proofs.Common.{◌∙◌, ◌++◌, ℕ, List, ap}
use Rattle.brake_base.specs.declared.stroke.Action.{Action}
use Rattle.brake_base.specs.declared.stroke.Key.{Key}
use Rattle.fold_boxes.specs.Pose.{PoseData, pose_data}
use Rattle.handling_cost.specs.Plan.{pose_before}
use Rattle.sheet_words.specs.Reasons.{reason_words}
use Rattle.sheet_page.specs.Refused.{note_words}
use Rattle.sheet_page.proofs.Tried.{action_among, pose_leads, note_at}
use Rattle.sheet_page.proofs.refusal_table.words_of.Goals as goal

pub pose_before-pose-requires : goal.pose_before-pose-requires
pose_before-pose-requires c = note_at c.args.job.now c.args.mask c.args.note.now c.key_of.result c.action_in-action.result c.key_of.ensures c.action_in-action.ensures.value c.requires

pub put_reason-requires-clause-action : goal.put_reason-requires-clause-action
put_reason-requires-clause-action c =
    action_among c.args.job.now c.key_of.result c.action_in-action.result
    (note_at c.args.job.now c.args.mask c.args.note.now c.key_of.result c.action_in-action.result c.key_of.ensures c.action_in-action.ensures.value c.requires)

pub put_reason-requires-clause-lead : goal.put_reason-requires-clause-lead
put_reason-requires-clause-lead c =
    pose_leads c.args.job.now c.key_of.result c.action_in-action.result (pose_data c.pose_before-pose.result) c.pose_before-pose.ensures.valid
    (note_at c.args.job.now c.args.mask c.args.note.now c.key_of.result c.action_in-action.result c.key_of.ensures c.action_in-action.ensures.value c.requires) c.pose_before-pose.ensures.value

pub returns : goal.returns
unfolding note_words
returns c =
    let job = c.args.job.now in
    let action = c.action_in-action.result in
    let reason = c.args.note.now.reason in
    c.in_ok-put_reason.ensures
    ∙ ap (λ (t : List ℕ). t ++ reason_words job action (pose_data c.pose_before-pose.result) reason) c.new-words.ensures.items
    ∙ ap (λ (p : PoseData). reason_words job action p reason) c.pose_before-pose.ensures.value
    ∙ ap (λ (k : Key). reason_words job action (pose_before job k.mask action) reason) c.key_of.ensures
    ∙ ap (λ (a : Action). reason_words job a (pose_before job c.args.mask a) reason) c.action_in-action.ensures.value
