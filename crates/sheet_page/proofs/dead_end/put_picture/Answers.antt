use Rattle.std.proofs.Common.{◌∙◌, get_or, FitsSigned, to_z-of_z, w64, sym, subst, ap}
use Rattle.std.specs.Prelude.{IfOk}
use Rattle.plan_lines.specs.declared.note.Note.{Note}
use Rattle.sheet_views.specs.Swept.{swept_by}
use Rattle.sheet_figures.specs.Refusals.{IsRefusal}
use Rattle.sheet_page.specs.Pictured.{AreOfNote}
use Rattle.sheet_page.proofs.Pictures.{of_note, if_ok_map}
use Rattle.brake_base.specs.declared.stroke.Key.{Key}
use Rattle.handling_cost.specs.StepCost.{IsActionAt}
use Rattle.sheet_views.specs.Drawing.{DrawingData, drawing_data, drawing_of}
use Rattle.sheet_page.specs.Kept.{key_at}
use Rattle.sheet_page.proofs.Tried.{action_among, pose_leads}
use Rattle.sheet_page.proofs.dead_end.put_picture.Goals as goal

pub drawing_of-drawing-requires : goal.drawing_of-drawing-requires
drawing_of-drawing-requires c = subst (λ (k : Key). IsActionAt c.args.refusals.now.job.now k c.action-action.result) (sym c.key_of.ensures) c.action-action.ensures.tried

pub put_refusal-requires-clause-action : goal.put_refusal-requires-clause-action
put_refusal-requires-clause-action c = action_among c.args.refusals.now.job.now (key_at c.args.refusals.now.mask) c.action-action.result c.action-action.ensures.tried

pub put_refusal-requires-clause-lead : goal.put_refusal-requires-clause-lead
put_refusal-requires-clause-lead c =
    pose_leads c.args.refusals.now.job.now c.key_of.result c.action-action.result (drawing_data c.drawing_of-drawing.result).pose c.recall_valid.ensures
    (subst (λ (k : Key). IsActionAt c.args.refusals.now.job.now k c.action-action.result) (sym c.key_of.ensures) c.action-action.ensures.tried)
    (ap (λ (d : DrawingData). d.pose) c.drawing_of-drawing.ensures.value)

pub returns-clause-value : goal.returns-clause-value
returns-clause-value c =
    let refusals = c.args.refusals.now in
    let job = refusals.job.now in
    let mask = refusals.mask in
    let notes = refusals.notes.now in
    let figure = c.args.figure in
    let action = c.action-action.result in
    let drawing = drawing_data c.drawing_of-drawing.result in
    let reason = c.note-reason.result.reason in
    let before = c.args.out.now.items in
    let after = c.put_refusal.new.out.items in
    let fits : FitsSigned w64 figure = c.ranges.figure in
    let put : IfOk c.put_refusal.result (λ count. IsRefusal (swept_by job action.stage drawing.pose reason) job drawing action reason figure count before after) = simp to_z-of_z at c.put_refusal.ensures.value in
    if_ok_map (λ count. IsRefusal (swept_by job action.stage drawing.pose reason) job drawing action reason figure count before after)
    (λ count. (d : Note) → AreOfNote job mask (get_or notes c.args.at d) figure count before after) c.put_refusal.result
    (λ count is d. of_note job mask (get_or notes c.args.at d) action drawing reason figure count before after (c.action-action.ensures.value d)
    (c.drawing_of-drawing.ensures.value ∙ ap (λ (k : Key). drawing_of job k.mask action) c.key_of.ensures) (ap (λ (n : Note). n.reason) (c.note-reason.ensures d)) is) put
