-- What a legal step says of its stage, and that a reason makes a step illegal.
use Rattle.std.proofs.Common.{◌≡◌, ℕ, ◌<◌, ◌≤◌, Bool, true, false, length, inl, inr, refl, sym, ◌∙◌, ap, arith}
use Rattle.std.proofs.lemmas.List.FromFn.{length-map-range_with_len}
use Rattle.std.proofs.lemmas.Bool.{false_from_ne_true}
use Rattle.brake_base.specs.declared.stroke.Back.{Back}
use Rattle.brake_base.specs.declared.stroke.Back.TheVariants.{Parent, Child}
use Rattle.brake_base.specs.declared.stroke.Half.{Half}
use Rattle.brake_base.specs.declared.stroke.Half.TheVariants.{Back as BackHalf, Front as FrontHalf}
use Rattle.brake_base.specs.declared.stroke.Key.{Key}
use Rattle.brake_base.specs.declared.stroke.Action.{Action}
use Rattle.brake_base.specs.declared.stroke.Gauge.{Gauge}
use Rattle.brake_base.specs.declared.stroke.Step.{Step}
use Rattle.brake_base.specs.declared.mask.Mask.{Mask}
use Rattle.brake_base.specs.declared.reason.Reason.{Reason}
use Rattle.brake_base.specs.declared.reason.Reason.TheVariants.{Cover, Rest, Frame, Upper, Nose, Lower, SelfHit, NoGauge, Load}
use Rattle.brake_base.specs.Masks.{has}
use Rattle.job_setup.specs.Setup.{StageData, JobData, bend_count}
use Rattle.job_setup.specs.StrokeGroup.{in_group, group_of}
use Rattle.job_setup.specs.StageOf.{stage_of}
use Rattle.job_setup.specs.Reasons.{is_uncovered, lacks_rest, meets, side_in}
use Rattle.job_setup.proofs.LegalFaces.{legal_within}
use Rattle.job_setup.proofs.ToldGauges.{gauge_told}
use Rattle.handling_cost.specs.StepCost.{IsActionAt}
use Rattle.handling_cost.specs.Plan.{pose_before, IsReasonFor, IsGaugeFor, IsLegal}
use Rattle.handling_cost.proofs.Actions.{group_bends}

module _ (job : JobData) (group : ℕ → Bool) (stage : StageData) where
  rests : (back side : Back) → ((half : Half) → lacks_rest job group (side_in half back) stage ≡ true → ⊥) → lacks_rest job group side stage ≡ false
  rests Parent Parent none = false_from_ne_true (lacks_rest job group Parent stage) (none BackHalf)
  rests Parent Child none = false_from_ne_true (lacks_rest job group Child stage) (none FrontHalf)
  rests Child Parent none = false_from_ne_true (lacks_rest job group Parent stage) (none FrontHalf)
  rests Child Child none = false_from_ne_true (lacks_rest job group Child stage) (none BackHalf)

  met : is_uncovered job group stage ≡ false → lacks_rest job group Parent stage ≡ false → lacks_rest job group Child stage ≡ false → meets job group stage ≡ true
  met covered parent child = rw (covered, parent, child) refl

module _ (job : JobData) (few : bend_count job ≤ 12) (key : Key) (step : Step) (legal : IsLegal job key step) where
  covers : is_uncovered job (has (group_of job key.mask step.action.bend)) (stage_of job step.action.stage) ≡ true → ⊥
  unfolding IsReasonFor
  covers uncovered = legal.free Cover (λ same. cc) uncovered

  carries : (half : Half) → lacks_rest job (has (group_of job key.mask step.action.bend)) (side_in half step.action.back) (stage_of job step.action.stage) ≡ true → ⊥
  unfolding IsReasonFor
  carries half lacks = legal.free (Rest half) (λ same. cc) lacks

  -- the stage of a legal step meets its group
  pub legal_meets : meets job (in_group job (has key.mask) step.action.bend) (stage_of job step.action.stage) ≡ true
  legal_meets =
      let at = legal.action in
      let stage = stage_of job step.action.stage in
      let group = has (group_of job key.mask step.action.bend) in
      let same : group ≡ in_group job (has key.mask) step.action.bend = λ i c. group_bends job few key.mask step.action.bend at.first at.last c i in
      sym (ap (λ (g : ℕ → Bool). meets job g stage) same)
      ∙ met job group stage (false_from_ne_true (is_uncovered job group stage) covers) (rests job group stage step.action.back Parent carries) (rests job group stage step.action.back Child carries)

no_gauge : (job : JobData) (mask : Mask) (step : Step) → IsReasonFor job mask step.action NoGauge → IsGaugeFor job mask step.action step.gauge → ⊥
unfolding IsReasonFor IsGaugeFor
no_gauge job mask step none some = none step.gauge some

-- a reason of whatever kind holds of no legal step
pub reason_is_not_legal : (job : JobData) (key : Key) (step : Step) (reason : Reason) → IsReasonFor job key.mask step.action reason → IsLegal job key step → ⊥
reason_is_not_legal job key step Cover holds legal = legal.free Cover (λ same. cc) holds
reason_is_not_legal job key step (Rest half) holds legal = legal.free (Rest half) (λ same. cc) holds
reason_is_not_legal job key step (Frame box) holds legal = legal.free (Frame box) (λ same. cc) holds
reason_is_not_legal job key step (Upper box quarter index) holds legal = legal.free (Upper box quarter index) (λ same. cc) holds
reason_is_not_legal job key step (Nose box quarter stage) holds legal = legal.free (Nose box quarter stage) (λ same. cc) holds
reason_is_not_legal job key step (Lower box quarter index) holds legal = legal.free (Lower box quarter index) (λ same. cc) holds
reason_is_not_legal job key step (SelfHit box quarter other) holds legal = legal.free (SelfHit box quarter other) (λ same. cc) holds
reason_is_not_legal job key step Load holds legal = legal.free Load (λ same. cc) holds
reason_is_not_legal job key step NoGauge holds legal = no_gauge job key.mask step holds legal.gauge

-- the faces of a gauge that is legal before a stroke are faces of the part
pub gauge_within : (job : JobData) (mask : Mask) (action : Action) (gauge : Gauge) → IsGaugeFor job mask action gauge → (gauge.left_face < length job.part.faces) × (gauge.right_face < length job.part.faces)
unfolding IsGaugeFor
gauge_within job mask action gauge legal =
    let pose = pose_before job mask action in
    let there = legal_within job pose gauge legal in
    let count : length pose.places ≡ length job.part.faces = length-map-range_with_len _ 0 (length job.part.faces) in
    (omega (arith, there.0, count), omega (arith, there.1, count))

-- where no reason holds against an action, NoGauge included, some step of it is legal
pub legal_of_none : (job : JobData) (key : Key) (action : Action) → IsActionAt job key action → ((reason : Reason) → IsReasonFor job key.mask action reason → ⊥) → (gauge : Gauge) × IsLegal job key (record { action = action; gauge = gauge })
unfolding IsReasonFor IsGaugeFor
legal_of_none job key action at none = elim (gauge_told job (pose_before job key.mask action)) [
  | inl some ↦ (some.0, record { action = at; free = λ reason other. none reason; gauge = some.1 })
  | inr lacks ↦ absurd (none NoGauge lacks)
]
