-- A reason against a stroke depends on the folded bends only through its support.
use Rattle.std.proofs.Common.{◌≡◌, ◌≢◌, ◌↔◌, inl, inr, ℕ, Bool, false, ◌||◌, IsTrue, refl, sym, ◌∙◌, ap, subst}
use Rattle.std.specs.List.{list_any}
use Rattle.std.proofs.lemmas.Bool.{or_left, or_right}
use Rattle.brake_base.specs.declared.mask.Mask.{Mask}
use Rattle.brake_base.specs.declared.stroke.Back.{Back}
use Rattle.brake_base.specs.declared.reason.Reason.{Reason}
use Rattle.brake_base.specs.declared.reason.Reason.TheVariants.{Cover, Rest, Frame, Upper, Nose, Lower, SelfHit, NoGauge, Load}
use Rattle.brake_base.specs.Masks.{has}
use Rattle.unfolder.specs.Cores.{joint_of}
use Rattle.fold_boxes.specs.declared.posed_part.PoseBox.{PoseBox}
use Rattle.fold_boxes.specs.Pose.{lead_of}
use Rattle.job_setup.specs.Setup.{JobData, shape_of}
use Rattle.job_setup.specs.StageOf.{stage_of}
use Rattle.job_setup.specs.StrokeGroup.{in_group, group_of}
use Rattle.job_setup.specs.ValidJob.{IsJob}
use Rattle.job_setup.specs.Reasons.{IsReason, pose_at}
use Rattle.job_setup.proofs.ReasonLocality.{HasBox, SpeaksOf, reason_alike}
use Rattle.job_setup.proofs.Validity.{shape_of_job}
use Rattle.box_support.specs.Deciding.{is_deciding}
use Rattle.box_support.proofs.Groups.{group_alike}
use Rattle.box_support.proofs.Boxes.{has_alike}
use Rattle.nogood_book.specs.Support.{named_boxes, AgreeOnSupport}

named_pass : (reason : Reason) (n : ℕ) (test : ℕ → Bool) → SpeaksOf reason n → IsTrue (test n) → IsTrue (list_any test (named_boxes reason))
named_pass Cover n test named passes = absurd named
named_pass (Rest half) n test named passes = absurd named
named_pass (Frame number) n test named passes = or_left (test number) false (sym (ap test named) ∙ passes)
named_pass (Upper number quarter index) n test named passes = or_left (test number) false (sym (ap test named) ∙ passes)
named_pass (Nose number quarter stage) n test named passes = or_left (test number) false (sym (ap test named) ∙ passes)
named_pass (Lower number quarter index) n test named passes = or_left (test number) false (sym (ap test named) ∙ passes)
named_pass (SelfHit number quarter other) n test (inl named) passes = or_left (test number) (test other || false) (sym (ap test named) ∙ passes)
named_pass (SelfHit number quarter other) n test (inr named) passes = or_right (test number) (test other || false) (or_left (test other) false (sym (ap test named) ∙ passes))
named_pass NoGauge n test named passes = absurd named
named_pass Load n test named passes = absurd named

-- a stroke is one of a bend's groups, with the bend as its lead
pub record IsStrokeOf (job : JobData) (mask : Mask) (b : ℕ) : Type 0 where
  pub lead : lead_of (shape_of job) (group_of job mask b) ≡ b
  pub member : IsTrue (has (group_of job mask b) b)

one_way : (job : JobData) → IsJob job → (s t : Mask) (b : ℕ) (back : Back) (stage : ℕ) (reason : Reason) → reason ≢ NoGauge → IsStrokeOf job s b → AgreeOnSupport job b reason s t
    → IsReason job s (group_of job s b) back stage reason → IsReason job t (group_of job t b) back stage reason
one_way job fit s t b back stage reason kind stroke agree holds =
    let shape = shape_of job in
    let faces = job.part.faces in
    let group = group_of job s b in
    let on = (joint_of faces b).on in
    let same_group : group ≡ group_of job t b = group_alike job s t b (λ c h. agree c (or_left (in_group job (λ d. false) b c) _ h)) in
    let member : IsTrue (has group (lead_of shape group)) = ap (has group) stroke.lead ∙ stroke.member in
    let boxes : (box : PoseBox) → SpeaksOf reason box.id → HasBox (pose_at job s group back stage) box → HasBox (pose_at job t group back stage) box =
    λ box named there.
    has_alike shape (shape_of_job job fit) group member back (stage_of job stage).x0 (stage_of job stage).x1 s t box
    (λ bend h. agree bend (or_right (in_group job (λ d. false) b bend) _ (named_pass reason box.id (λ n. is_deciding faces on n bend) named (ap (λ l. is_deciding faces (joint_of faces l).on box.id bend) (sym stroke.lead) ∙ h)))) there in
    subst (λ (g : Mask). IsReason job t g back stage reason) same_group (reason_alike job (pose_at job s group back stage) (pose_at job t group back stage) back stage reason kind refl boxes holds)

-- Two sets of folded bends that agree on the support of a reason other than NoGauge have it together or not at all.
pub support_decides : (job : JobData) → IsJob job → (s t : Mask) (b : ℕ) (back : Back) (stage : ℕ) (reason : Reason) → reason ≢ NoGauge → IsStrokeOf job s b → AgreeOnSupport job b reason s t
    → IsReason job s (group_of job s b) back stage reason ↔ IsReason job t (group_of job t b) back stage reason
support_decides job fit s t b back stage reason kind stroke agree =
    let same_group : group_of job s b ≡ group_of job t b = group_alike job s t b (λ c h. agree c (or_left (in_group job (λ d. false) b c) _ h)) in
    let other : IsStrokeOf job t b = record {
      lead = ap (lead_of (shape_of job)) (sym same_group) ∙ stroke.lead;
      member = ap (λ (g : Mask). has g b) (sym same_group) ∙ stroke.member;
    } in
    (one_way job fit s t b back stage reason kind stroke agree, one_way job fit t s b back stage reason kind other (λ c h. sym (agree c h)))
