use Rattle.std.proofs.Common.{◌≡◌, ◌∙◌, ◌<◌, ℕ, ℤ, [], ◌∷◌, get_or, length, ap, sym, subst, to_z-of_z, FitsSigned, rules, w64, arith}
use Rattle.fold_boxes.specs.declared.posed_part.PoseBox.{PoseBox}
use Rattle.sweep_check.specs.Around.{AreSurroundings}
use Rattle.sweep_check.specs.Pieces.{AreSolidBoxes}
use Rattle.sweep_check.specs.FirstReasons.{IsFirstAmong, pose_of_boxes}
use Rattle.stroke_table.specs.Moved.{moved_box}
use Rattle.stroke_table.specs.BoxReasons.{box_at}
use Rattle.stroke_table.specs.Codes.{IsGiven, IsLeastCode, AreLeastCodes}
use Rattle.stroke_table.proofs.BoxSteps.{one_solid}
use Rattle.stroke_table.proofs.LeastCodes.{none_hold, stage_more}
use Rattle.stroke_table.proofs.FirstCodes.{found_coded, least_of_first}
use Rattle.stroke_table.proofs.box_reasons.box_codes.Goals as goal

pub loop-stage-init : goal.loop-stage-init
loop-stage-init c =
    none_hold 0 (λ stage. IsGiven c.args.job.now (box_at c.args.job.now c.args.of.now.group stage c.args.body.now) c.args.of.now.back stage) c.all-codes.result.0 (omega arith) c.all-codes.ensures.lanes (λ stage reason low holds. absurd (omega (arith, low)))

pub first_of_boxes-first-requires-clause-around : goal.first_of_boxes-first-requires-clause-around
first_of_boxes-first-requires-clause-around c =
    let job = c.args.job.now in
    let stage = c.loop-stage.stage in
    let inside : stage < length c.args.around.now = omega (arith, c.loop-stage-test.true, c.stages-stage-end.ensures.value, c.requires.around.count) in
    let is = c.index-around-place.is ∙ ap (λ (n : ℕ). get_or c.args.around.now n c.index-around-place.result) c.from-place.ensures in
    subst (AreSurroundings job) (sym is) (c.requires.around.each stage c.index-around-place.result inside).0

pub first_of_boxes-first-requires-clause-boxes : goal.first_of_boxes-first-requires-clause-boxes
first_of_boxes-first-requires-clause-boxes c =
    let job = c.args.job.now in
    let stage = c.loop-stage.stage in
    let within : stage < length job.setup.stages = omega (arith, c.loop-stage-test.true, c.stages-stage-end.ensures.value) in
    let fits : FitsSigned w64 c.shift.result = search rules in
    let is : c.moved_box-moved.result ≡ box_at job c.args.of.now.group stage c.args.body.now = c.moved_box-moved.ensures ∙ ap (λ (by : ℤ). moved_box by c.args.body.now) (to_z-of_z fits ∙ c.shift.ensures.value) in
    subst (λ (b : PoseBox). AreSolidBoxes (b ∷ [])) (sym is) (one_solid (box_at job c.args.of.now.group stage c.args.body.now) (c.requires.body.solid stage within))

pub code_for-requires : goal.code_for-requires
code_for-requires c =
    let job = c.args.job.now in
    let group = c.args.of.now.group in
    let body = c.args.body.now in
    let stage = c.loop-stage.stage in
    let within : stage < length job.setup.stages = omega (arith, c.loop-stage-test.true, c.stages-stage-end.ensures.value) in
    let inside : stage < length c.args.around.now = omega (arith, within, c.requires.around.count) in
    let one = c.index-around-place.result in
    let around = c.index-around-place.is ∙ ap (λ (n : ℕ). get_or c.args.around.now n one) c.from-place.ensures in
    let at : one.stage ≡ stage = ap (λ s. s.stage) around ∙ (c.requires.around.each stage one inside).1 in
    let fits : FitsSigned w64 c.shift.result = search rules in
    let is : c.moved_box-moved.result ≡ box_at job group stage body = c.moved_box-moved.ensures ∙ ap (λ (by : ℤ). moved_box by body) (to_z-of_z fits ∙ c.shift.ensures.value) in
    let first : IsFirstAmong job (pose_of_boxes (box_at job group stage body ∷ [])) c.args.of.now.back stage 3 6 c.first_of_boxes-first.result =
    subst (λ (s : ℕ). IsFirstAmong job (pose_of_boxes (box_at job group stage body ∷ [])) c.args.of.now.back s 3 6 c.first_of_boxes-first.result) at
    (subst (λ (b : PoseBox). IsFirstAmong job (pose_of_boxes (b ∷ [])) c.args.of.now.back one.stage 3 6 c.first_of_boxes-first.result) is (c.first_of_boxes-first.ensures c.args.of.now.back)) in
    found_coded job (pose_of_boxes (box_at job group stage body ∷ [])) c.args.of.now.back stage 3 6 c.first_of_boxes-first.result (λ reason holds. c.requires.coded stage reason within holds) first

pub loop-stage-preserved : goal.loop-stage-preserved
loop-stage-preserved c =
    let job = c.args.job.now in
    let group = c.args.of.now.group in
    let back = c.args.of.now.back in
    let body = c.args.body.now in
    let stage = c.loop-stage.stage in
    let found = c.first_of_boxes-first.result in
    let within : stage < length job.setup.stages = omega (arith, c.loop-stage-test.true, c.stages-stage-end.ensures.value) in
    let inside : stage < length c.args.around.now = omega (arith, within, c.requires.around.count) in
    let one = c.index-around-place.result in
    let around = c.index-around-place.is ∙ ap (λ (n : ℕ). get_or c.args.around.now n one) c.from-place.ensures in
    let at : one.stage ≡ stage = ap (λ s. s.stage) around ∙ (c.requires.around.each stage one inside).1 in
    let fits : FitsSigned w64 c.shift.result = search rules in
    let is : c.moved_box-moved.result ≡ box_at job group stage body = c.moved_box-moved.ensures ∙ ap (λ (by : ℤ). moved_box by body) (to_z-of_z fits ∙ c.shift.ensures.value) in
    let first : IsFirstAmong job (pose_of_boxes (box_at job group stage body ∷ [])) back stage 3 6 found =
    subst (λ (s : ℕ). IsFirstAmong job (pose_of_boxes (box_at job group stage body ∷ [])) back s 3 6 found) at (subst (λ (b : PoseBox). IsFirstAmong job (pose_of_boxes (b ∷ [])) back one.stage 3 6 found) is (c.first_of_boxes-first.ensures back)) in
    let least = least_of_first job (pose_of_boxes (box_at job group stage body ∷ [])) back stage 3 6 found (λ reason holds. c.requires.coded stage reason within holds) first in
    stage_more stage (λ s. IsGiven job (box_at job group s body) back s) c.loop-stage.codes.0 c.with-codes.result.0 c.code_for.result (omega (arith, within, c.requires.around.few)) c.loop-stage.invariant
    (subst (IsLeastCode (IsGiven job (box_at job group stage body) back stage)) (sym c.code_for.ensures) least) c.with-codes.ensures.lanes

pub returns : goal.returns
returns c =
    let job = c.args.job.now in
    let same : c.loop-stage.stage ≡ length job.setup.stages = omega (arith, c.loop-stage-test.false, c.loop-stage.auto.stage-end, c.stages-stage-end.ensures.value) in
    subst (λ (n : ℕ). AreLeastCodes n (λ stage. IsGiven job (box_at job c.args.of.now.group stage c.args.body.now) c.args.of.now.back stage) c.loop-stage.codes.0) same c.loop-stage.invariant
