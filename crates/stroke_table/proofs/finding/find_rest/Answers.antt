use Rattle.std.proofs.Common.{◌≡◌, ◌∙◌, ◌<◌, ◌≤◌, ℕ, List, refl, sym, ap, subst, arith}
use Rattle.std.proofs.lemmas.Bool.{false≢true}
use Rattle.brake_base.specs.declared.mask.Mask.{Mask}
use Rattle.fold_boxes.specs.declared.posed_part.PoseBox.{PoseBox}
use Rattle.fold_boxes.specs.Pose.{IsGroup, PoseData}
use Rattle.job_setup.specs.Setup.{JobData, shape_of, stage_count}
use Rattle.job_setup.specs.ValidJob.{IsJob}
use Rattle.stroke_table.specs.declared.keys.GroupKey.{GroupKey}
use Rattle.job_setup.specs.Reasons.{pose_at, IsPoseAt}
use Rattle.gauge_rules.specs.Pairs.{IsFirstLegal}
use Rattle.handling_cost.proofs.Keys.{some_stage}
use Rattle.sweep_check.specs.FirstReasons.{IsFirstAmong}
use Rattle.sweep_check.specs.Pieces.{AreSolidBoxes}
use Rattle.sweep_check.proofs.PoseBoxes.{pose_solid}
use Rattle.stage_lanes.specs.Lanes.{AreLanes}
use Rattle.stroke_table.specs.Codes.{HoldsAmong, IsLeastCode, IsFreeSomewhere, at_stages}
use Rattle.stroke_table.specs.Finding.{IsGaugeOf}
use Rattle.stroke_table.proofs.SameGauge.{same_first}
use Rattle.stroke_table.proofs.StageBoxes.{halves_at, codes_to_load}
use Rattle.stroke_table.proofs.LeastCodes.{code_at_stages}
use Rattle.stroke_table.proofs.FirstCodes.{found_coded, least_of_first, coded, joined_codes, codes_settled, gauge_first}
use Rattle.stroke_table.proofs.finding.find_rest.Goals as goal

-- the boxes of the part at stage 0
solid_boxes : (job : JobData) → IsJob job → (mask : Mask) (key : GroupKey) → IsGroup (shape_of job) mask key.group → (boxes : List PoseBox) → boxes ≡ (pose_at job mask key.group key.back 0).boxes → AreSolidBoxes boxes
solid_boxes job fit mask key group boxes same =
    let pose = pose_at job mask key.group key.back 0 in
    let at : IsPoseAt job 0 pose = record { mask = mask; group = key.group; back = key.back; stroke = group; within = some_stage job fit; value = refl } in
    subst AreSolidBoxes (sym same) (pose_solid job 0 pose fit at)

pub first_of_halves-hit-requires : goal.first_of_halves-hit-requires
first_of_halves-hit-requires c = record {
  boxes = solid_boxes c.args.job.now c.stages-stages.ensures.valid c.args.stroke.now.mask c.args.stroke.now.of c.requires.group c.as_slice-boxes.result.now (c.as_slice-boxes.ensures.value ∙ ap (λ (p : PoseData). p.boxes) c.requires.pose);
}

pub first_pair-gauge-requires-clause-boxes : goal.first_pair-gauge-requires-clause-boxes
first_pair-gauge-requires-clause-boxes c = c.as_slice-boxes.ensures.value

pub first_pair-gauge-requires-clause-ascend : goal.first_pair-gauge-requires-clause-ascend
first_pair-gauge-requires-clause-ascend c =
    (solid_boxes c.args.job.now c.stages-stages.ensures.valid c.args.stroke.now.mask c.args.stroke.now.of c.requires.group c.as_slice-boxes.result.now (c.as_slice-boxes.ensures.value ∙ ap (λ (p : PoseData). p.boxes) c.requires.pose)).ascend

pub code_for-hit_code-requires : goal.code_for-hit_code-requires
code_for-hit_code-requires c =
    let job = c.args.job.now in
    let mask = c.args.stroke.now.mask in
    let key = c.args.stroke.now.of in
    let same : c.args.pose.now.boxes.items ≡ (pose_at job mask key.group key.back 0).boxes = ap (λ (p : PoseData). p.boxes) c.requires.pose in
    found_coded job (pose_at job mask key.group key.back 0) key.back 0 7 7 c.first_of_halves-hit.result (coded job c.stages-stages.ensures.valid mask key 7 7 0)
    (halves_at job mask key.group key.back 0 c.as_slice-boxes.result.now c.first_of_halves-hit.result (c.as_slice-boxes.ensures.value ∙ same) (c.first_of_halves-hit.ensures key.back 0))

pub returns-else-is_free_somewhere : goal.returns-else-is_free_somewhere
returns-else-is_free_somewhere c =
    let job = c.args.job.now in
    let mask = c.args.stroke.now.mask in
    let key = c.args.stroke.now.of in
    let fit = c.stages-stages.ensures.valid in
    let n = stage_count job in
    let code = c.code_for-hit_code.result in
    let seen = c.as_slice-boxes.ensures.value ∙ ap (λ (p : PoseData). p.boxes) c.requires.pose in
    let alike = subst (λ (s : ℕ). AreLanes c.at_stages-hits.result.0 (at_stages code s)) c.stages-stages.ensures.value c.at_stages-hits.ensures in
    let others = codes_to_load job fit mask key c.as_slice-boxes.result.now c.first_of_halves-hit.result code c.args.before.0 c.at_stages-hits.result.0 c.lesser-with_hits.result.0 c.args.load.0 c.lesser-others.result.0 seen (c.first_of_halves-hit.ensures key.back)
    c.code_for-hit_code.ensures alike c.requires.before c.lesser-with_hits.ensures.lanes c.requires.load c.lesser-others.ensures.lanes in
    record {
      codes = codes_settled job fit mask key 1 8 9 n c.lesser-others.result.0 (omega arith) others
          (λ free. false≢true (sym c.if-is_free_somewhere.false ∙ c.is_free_somewhere.ensures.1 (subst (IsFreeSomewhere c.lesser-others.result.0) (sym c.stages-stages.ensures.value) free)));
      gauge = tt;
    }

pub code_for-lack_code-requires : goal.code_for-lack_code-requires
code_for-lack_code-requires c =
    let job = c.args.job.now in
    let mask = c.args.stroke.now.mask in
    let key = c.args.stroke.now.of in
    let first = subst (λ (p : PoseData). IsFirstLegal job p c.first_pair-gauge.result) c.requires.pose c.first_pair-gauge.ensures in
    found_coded job (pose_at job mask key.group key.back 0) key.back 0 9 9 c.gauge_reason-lack.result (coded job c.stages-stages.ensures.valid mask key 9 9 0)
    (subst (IsFirstAmong job (pose_at job mask key.group key.back 0) key.back 0 9 9) (sym c.gauge_reason-lack.ensures) (gauge_first job mask key.group key.back 0 c.first_pair-gauge.result first))

pub returns-then-is_free_somewhere : goal.returns-then-is_free_somewhere
returns-then-is_free_somewhere c =
    let job = c.args.job.now in
    let mask = c.args.stroke.now.mask in
    let key = c.args.stroke.now.of in
    let fit = c.stages-stages.ensures.valid in
    let n = stage_count job in
    let code = c.code_for-hit_code.result in
    let seen = c.as_slice-boxes.ensures.value ∙ ap (λ (p : PoseData). p.boxes) c.requires.pose in
    let alike = subst (λ (s : ℕ). AreLanes c.at_stages-hits.result.0 (at_stages code s)) c.stages-stages.ensures.value c.at_stages-hits.ensures in
    let others = codes_to_load job fit mask key c.as_slice-boxes.result.now c.first_of_halves-hit.result code c.args.before.0 c.at_stages-hits.result.0 c.lesser-with_hits.result.0 c.args.load.0 c.lesser-others.result.0 seen (c.first_of_halves-hit.ensures key.back)
    c.code_for-hit_code.ensures alike c.requires.before c.lesser-with_hits.ensures.lanes c.requires.load c.lesser-others.ensures.lanes in
    let few : n ≤ 8 = omega (arith, fit.setup.stages.few_stages) in
    let gauge = c.first_pair-gauge.result in
    let lack = c.gauge_reason-lack.result in
    let first = subst (λ (p : PoseData). IsFirstLegal job p gauge) c.requires.pose c.first_pair-gauge.ensures in
    let legal : IsGaugeOf job mask key.group key.back gauge = λ stage within. same_first job mask key.group key.back 0 stage gauge first in
    let lacks : (stage : ℕ) → stage < n → IsLeastCode (HoldsAmong job mask key 9 9 stage) c.code_for-lack_code.result =
    λ stage within.
    subst (IsLeastCode (HoldsAmong job mask key 9 9 stage)) (sym c.code_for-lack_code.ensures)
    (least_of_first job (pose_at job mask key.group key.back stage) key.back stage 9 9 lack (coded job fit mask key 9 9 stage)
    (subst (IsFirstAmong job (pose_at job mask key.group key.back stage) key.back stage 9 9) (sym c.gauge_reason-lack.ensures) (gauge_first job mask key.group key.back stage gauge (legal stage within)))) in
    let last = code_at_stages n (HoldsAmong job mask key 9 9) c.at_stages-last.result.0 c.code_for-lack_code.result few lacks (subst (λ (s : ℕ). AreLanes c.at_stages-last.result.0 (at_stages c.code_for-lack_code.result s)) c.stages-stages.ensures.value c.at_stages-last.ensures) in
    record {
      codes = joined_codes job fit mask key 1 8 9 n c.lesser-others.result.0 c.at_stages-last.result.0 c.lesser.result.0 few (omega arith) (omega arith) others last c.lesser.ensures.lanes;
      gauge = legal;
    }
