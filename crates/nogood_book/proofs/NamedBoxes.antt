-- A reason that holds names boxes of the job's faces and of its bends' corners.
use Rattle.std.proofs.Common.{◌≡◌, inl, inr, ℕ, ◌≤◌, [], ◌∷◌, length, ◌∙◌, ap, subst, arith}
use Rattle.std.specs.Prelude.{All}
use Rattle.std.proofs.lemmas.List.Elements.{All-nil, All-cons}
use Rattle.brake_base.specs.declared.mask.Mask.{Mask}
use Rattle.brake_base.specs.declared.stroke.Action.{Action}
use Rattle.brake_base.specs.declared.stroke.Back.{Back}
use Rattle.brake_base.specs.declared.reason.Reason.{Reason}
use Rattle.brake_base.specs.declared.reason.Reason.TheVariants.{Cover, Rest, Frame, Upper, Nose, Lower, SelfHit, NoGauge, Load}
use Rattle.fold_boxes.specs.declared.posed_part.PoseBox.{PoseBox}
use Rattle.fold_boxes.specs.Pose.{face_of_box, pose_box, box_ids, IsNumberOfBox}
use Rattle.job_setup.specs.Setup.{JobData, shape_of, bend_count}
use Rattle.job_setup.specs.StageOf.{stage_of}
use Rattle.job_setup.specs.ValidJob.{IsJob}
use Rattle.job_setup.specs.Reasons.{SomeBox, IsReason, pose_at}
use Rattle.handling_cost.specs.Plan.{IsReasonFor}
use Rattle.nogood_book.specs.Support.{NamesBoxes}
use Rattle.box_support.proofs.Elements.{any_unmapped}
use Rattle.box_support.proofs.Boxes.{ids_are, face_number, corner_number}

-- the number of a box of the part is a face's or a corner's
number_fits : (job : JobData) → IsJob job → (mask : Mask) (id : ℕ) → IsNumberOfBox (shape_of job) mask id → face_of_box id ≤ bend_count job
number_fits job fit mask id (inl inside) =
    let few : length job.part.faces ≤ 13 = fit.part.few_faces in
    let same = face_number id (omega (arith, inside, few)) in
    omega (arith, same, inside)
number_fits job fit mask id (inr (c, some, inside, folded, same)) =
    let number : face_of_box id ≡ c = ap face_of_box same ∙ corner_number c some in
    omega (arith, number, inside)

module _ (job : JobData) (fit : IsJob job) (mask group : Mask) (back : Back) (stage : ℕ) where
  -- so is that of a box of a pose
  some_fits : (number : ℕ) (P : PoseBox → Type 0) → SomeBox (pose_at job mask group back stage) number P → face_of_box number ≤ bend_count job
  some_fits number P some =
      let make = pose_box (shape_of job) mask group back (stage_of job stage).x0 (stage_of job stage).x1 in
      let found = any_unmapped (λ box. (box.id ≡ number) × P box) make 0 (box_ids (shape_of job) mask) some in
      let id = found.1 in
      let is : IsNumberOfBox (shape_of job) mask id = subst (IsNumberOfBox (shape_of job) mask) found.3 (ids_are (shape_of job) mask found.0 id found.2) in
      let same : id ≡ number = found.4.0 in
      subst (λ n. face_of_box n ≤ bend_count job) same (number_fits job fit mask id is)

  one_fits : (number : ℕ) (P : PoseBox → Type 0) → SomeBox (pose_at job mask group back stage) number P → All (λ box. face_of_box box ≤ bend_count job) (number ∷ [])
  one_fits number P some = All-cons (λ box. face_of_box box ≤ bend_count job) number [] (some_fits number P some) (All-nil (λ box. face_of_box box ≤ bend_count job))

  names : (reason : Reason) → IsReason job mask group back stage reason → NamesBoxes job reason
  names Cover holds = All-nil (λ box. face_of_box box ≤ bend_count job)
  names (Rest half) holds = All-nil (λ box. face_of_box box ≤ bend_count job)
  names (Frame number) holds = one_fits number _ holds
  names (Upper number quarter index) holds = one_fits number _ holds
  names (Nose number quarter other) holds = one_fits number _ holds.1
  names (Lower number quarter index) holds = one_fits number _ holds
  names (SelfHit number quarter other) holds =
      All-cons (λ box. face_of_box box ≤ bend_count job) number (other ∷ []) (some_fits number _ holds) (one_fits other _ holds.4.1)
  names NoGauge holds = All-nil (λ box. face_of_box box ≤ bend_count job)
  names Load holds = All-nil (λ box. face_of_box box ≤ bend_count job)

pub names_boxes : (job : JobData) → IsJob job → (mask : Mask) (action : Action) (reason : Reason) → IsReasonFor job mask action reason → NamesBoxes job reason
unfolding IsReasonFor
names_boxes job fit mask action reason holds = names job fit mask _ action.back action.stage reason holds
