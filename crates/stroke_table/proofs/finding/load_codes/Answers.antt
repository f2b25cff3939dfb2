use Rattle.std.proofs.Common.{◌≡◌, ℕ, length, refl, sym, subst, arith}
use Rattle.brake_base.specs.declared.mask.Mask.{Mask}
use Rattle.brake_base.specs.declared.stroke.Back.{Back}
use Rattle.brake_base.specs.declared.stroke.Back.TheVariants.{Parent}
use Rattle.fold_boxes.specs.Pose.{pose_data}
use Rattle.job_setup.specs.Reasons.{pose_at}
use Rattle.sweep_check.specs.FirstReasons.{IsFirstAmong}
use Rattle.sweep_check.proofs.Alike.{among_alike}
use Rattle.stroke_table.specs.declared.keys.GroupKey.{GroupKey}
use Rattle.stroke_table.specs.Codes.{HoldsAmong, IsLeastCode, AreLeastCodes}
use Rattle.stroke_table.proofs.LeastCodes.{none_hold, stage_more}
use Rattle.stroke_table.proofs.FirstCodes.{found_coded, least_of_first, coded}
use Rattle.stroke_table.proofs.MovedReasons.{load_alike}
use Rattle.stroke_table.proofs.finding.load_codes.Goals as goal

pub loop-stage-init : goal.loop-stage-init
loop-stage-init c = λ mask back.
    none_hold 0 (HoldsAmong c.args.job.now mask (record { group = c.args.pose.now.group; back = back }) 8 8) c.all-codes.result.0 (omega arith) c.all-codes.ensures.lanes (λ stage reason low holds. absurd (omega (arith, low)))

pub code_for-requires : goal.code_for-requires
code_for-requires c =
    let job = c.args.job.now in
    let none : Mask = record { 0 = 0 } in
    let back : Back = Parent in
    let key : GroupKey = record { group = c.args.pose.now.group; back = back } in
    let stage = c.loop-stage.stage in
    let found = c.load_reason-first.result in
    let pose = pose_at job none key.group back stage in
    let alike : IsFirstAmong job pose back stage 8 8 found = among_alike job (pose_data c.args.pose.now) pose back stage 8 8 found (load_alike job (pose_data c.args.pose.now) pose back stage refl) (c.load_reason-first.ensures back) in
    found_coded job pose back stage 8 8 found (coded job c.stages-stage-end.ensures.valid none key 8 8 stage) alike

pub loop-stage-preserved : goal.loop-stage-preserved
loop-stage-preserved c = λ mask back.
    let job = c.args.job.now in
    let key : GroupKey = record { group = c.args.pose.now.group; back = back } in
    let stage = c.loop-stage.stage in
    let found = c.load_reason-first.result in
    let pose = pose_at job mask key.group key.back stage in
    let alike : IsFirstAmong job pose key.back stage 8 8 found = among_alike job (pose_data c.args.pose.now) pose key.back stage 8 8 found (load_alike job (pose_data c.args.pose.now) pose key.back stage refl) (c.load_reason-first.ensures key.back) in
    let least = least_of_first job pose key.back stage 8 8 found (coded job c.stages-stage-end.ensures.valid mask key 8 8 stage) alike in
    stage_more stage (HoldsAmong job mask key 8 8) c.loop-stage.codes.0 c.with-codes.result.0 c.code_for.result (omega (arith, c.loop-stage-test.true, c.stages-stage-end.ensures.few)) (c.loop-stage.invariant mask back)
    (subst (IsLeastCode (HoldsAmong job mask key 8 8 stage)) (sym c.code_for.ensures) least) c.with-codes.ensures.lanes

pub returns : goal.returns
returns c = λ mask back.
    let job = c.args.job.now in
    let same : c.loop-stage.stage ≡ length job.setup.stages = omega (arith, c.loop-stage-test.false, c.loop-stage.auto.stage-end, c.stages-stage-end.ensures.value) in
    subst (λ (n : ℕ). AreLeastCodes n (HoldsAmong job mask (record { group = c.args.pose.now.group; back = back }) 8 8) c.loop-stage.codes.0) same (c.loop-stage.invariant mask back)
