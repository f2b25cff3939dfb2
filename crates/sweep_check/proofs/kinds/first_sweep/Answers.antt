use Rattle.std.proofs.Common.{sym, subst, List, ◌∷◌, [], get_or, take}
use Rattle.std.proofs.lemmas.List.{take_all, take_more}
use Rattle.fold_boxes.specs.declared.posed_part.PoseBox.{PoseBox}
use Rattle.sweep_check.proofs.Swept.{FirstBy, none_yet, both}
use Rattle.sweep_check.proofs.kinds.first_sweep.Goals as goal

pub loop-body-init : goal.loop-body-init
loop-body-init c = λ back. none_yet c.args.job.now back c.args.around.now.stage

pub loop-body-preserved : goal.loop-body-preserved
loop-body-preserved c = λ back.
    let job = c.args.job.now in
    let stage = c.args.around.now.stage in
    let boxes = c.args.boxes.now in
    let i = c.loop-body.body-index in
    subst (λ (bs : List PoseBox). FirstBy job back stage bs c.earlier-first.result) (sym (take_more boxes i _ c.loop-body-test.true))
    (both job back stage (take i boxes) (get_or boxes i _ ∷ []) c.loop-body.first c.first_of_box-found.result c.earlier-first.result c.earlier-first.ensures (c.loop-body.invariant back) (c.first_of_box-found.ensures back))

pub returns : goal.returns
returns c = λ back.
    subst (λ (bs : List PoseBox). FirstBy c.args.job.now back c.args.around.now.stage bs c.loop-body.first) (take_all c.loop-body.body-index c.args.boxes.now c.loop-body-test.false) (c.loop-body.invariant back)
