-- The reasons of the kinds Frame, Upper, Nose and Lower, box by box; and what is kept of a box, for all strokes that have it.
use Rattle.std.proofs.Common.{◌≡◌, inl, inr, ℕ, zero, suc, ◌+◌, ◌<◌, ◌≤◌, ◌^◌, min, Bool, true, false, ◌&&◌, List, [], ◌∷◌, ◌++◌, map, filter, length, slice_index, refl, sym, ◌∙◌, ap, subst, arith}
use Rattle.std.specs.Prelude.{Any}
use Rattle.std.proofs.lemmas.Bool.{cases_lt, false≢true}
use Rattle.std.proofs.lemmas.List.{map-append}
use Rattle.std.proofs.lemmas.Simd.{map-map}
use Rattle.brake_base.specs.declared.mask.Mask.{Mask}
use Rattle.brake_base.specs.declared.reason.Reason.{Reason}
use Rattle.brake_base.specs.declared.reason.Reason.TheVariants.{Cover, Rest, Frame, Upper, Nose, Lower, SelfHit, NoGauge, Load}
use Rattle.brake_base.specs.Masks.{has}
use Rattle.brake_base.specs.Turns.{map_of}
use Rattle.unfolder.specs.Blank.{face_numbers, bend_numbers}
use Rattle.fold_boxes.specs.declared.posed_part.PoseBox.{PoseBox}
use Rattle.fold_boxes.specs.declared.posed_part.Pose.{Pose}
use Rattle.fold_boxes.specs.Pose.{box_ids, pose_data, IsNumberOfBox}
use Rattle.job_setup.specs.Setup.{JobData, shape_of, bend_count, stage_count}
use Rattle.job_setup.specs.StageOf.{stage_of}
use Rattle.job_setup.specs.ValidJob.{IsJob}
use Rattle.job_setup.specs.Obstacles.{upper_group, lower_group}
use Rattle.job_setup.specs.Reasons.{MeetsAlong, IsHit, IsNoseHit, SomeObstacle, IsReasonOf, pose_at}
use Rattle.job_setup.proofs.Validity.{shape_of_job}
use Rattle.sweep_check.specs.FirstReasons.{kind_place, pose_of_boxes}
use Rattle.box_support.specs.Deciding.{is_deciding, AgreeOnBox}
use Rattle.box_support.proofs.Elements.{any_here, any_mapped, any_unmapped}
use Rattle.box_support.proofs.Boxes.{ids_are, id_found, box_alike, face_place_alike}
use Rattle.box_support.proofs.Sets.{none_at_zero, none_past}
use Rattle.stage_lanes.specs.Lanes.{AreLanes}
use Rattle.stroke_table.specs.declared.keys.GroupKey.{GroupKey}
use Rattle.stroke_table.specs.declared.keys.StrokeKey.{StrokeKey}
use Rattle.stroke_table.specs.declared.keys.BoxKey.{BoxKey}
use Rattle.stroke_table.specs.declared.known.FoundBox.{FoundBox}
use Rattle.stroke_table.specs.Codes.{AreLeastCodes, HoldsAmong, IsGiven, stroke_box, stroke_place, IsOfBox}
use Rattle.stroke_table.specs.Gathering.{IsOfBoxBelow, IsPoseOf}
use Rattle.stroke_table.specs.Records.{IsBoxKey, IsFoundBox, parent_of}
use Rattle.stroke_table.proofs.LeastCodes.{either_codes, same_codes}

pub any_one : {X : Type 0} (P : X → Type 0) (x : X) → Any P (x ∷ []) → P x
any_one P x (zero, y, low, same, holds) = subst P (sym same) holds
any_one P x (suc k, y, low, same, holds) = absurd (omega (arith, low))

-- ---- box by box
module _ (job : JobData) (mask : Mask) (key : GroupKey) (stage : ℕ) where
  abbrev made : ℕ → PoseBox
  made number = stroke_box job mask key number stage

  abbrev Whole : (PoseBox → Type 0) → Type 0
  Whole P = Any P (pose_at job mask key.group key.back stage).boxes

  abbrev Single : (PoseBox → Type 0) → Type 0
  Single P = (number : ℕ) × IsNumberOfBox (shape_of job) mask number × Any P (made number ∷ [])

  apart : (P : PoseBox → Type 0) → Whole P → Single P
  apart P some =
      let found = any_unmapped P made 0 (box_ids (shape_of job) mask) some in
      let is : IsNumberOfBox (shape_of job) mask found.1 = subst (IsNumberOfBox (shape_of job) mask) found.3 (ids_are (shape_of job) mask found.0 found.1 found.2) in
      (found.1, is, any_here P (made found.1) [] found.4)

  together : (P : PoseBox → Type 0) (number : ℕ) → IsNumberOfBox (shape_of job) mask number → Any P (made number ∷ []) → Whole P
  together P number is some = any_mapped P made (box_ids (shape_of job) mask) (id_found (shape_of job) mask number (λ n. P (made n)) is (any_one P (made number) some))

  abbrev Of : ℕ → Reason → Type 0
  Of number reason = IsReasonOf job (pose_of_boxes (made number ∷ [])) key.back stage reason

  of_some : (reason : Reason) → 3 ≤ kind_place reason → kind_place reason ≤ 6 → IsReasonOf job (pose_at job mask key.group key.back stage) key.back stage reason → (number : ℕ) × IsNumberOfBox (shape_of job) mask number × Of number reason
  of_some Cover low high holds = absurd (omega (arith, low))
  of_some (Rest half) low high holds = absurd (omega (arith, low))
  of_some (Frame n) low high holds = apart (λ box. (box.id ≡ n) × Any (MeetsAlong box) job.setup.frames) holds
  of_some (Upper n quarter index) low high holds = apart (λ box. (box.id ≡ n) × SomeObstacle (upper_group job) index (IsHit job box quarter)) holds
  of_some (Nose n quarter other) low high holds =
      let found = apart (λ box. (box.id ≡ n) × IsNoseHit job box quarter (stage_of job other)) holds.1 in
      (found.0, found.1, (holds.0, found.2))
  of_some (Lower n quarter index) low high holds = apart (λ box. (box.id ≡ n) × SomeObstacle (lower_group job stage) index (IsHit job box quarter)) holds
  of_some (SelfHit n quarter other) low high holds = absurd (omega (arith, high))
  of_some NoGauge low high holds = absurd (omega (arith, high))
  of_some Load low high holds = absurd (omega (arith, high))

  of_all : (number : ℕ) → IsNumberOfBox (shape_of job) mask number → (reason : Reason) → 3 ≤ kind_place reason → kind_place reason ≤ 6 → Of number reason → IsReasonOf job (pose_at job mask key.group key.back stage) key.back stage reason
  of_all number is Cover low high holds = absurd (omega (arith, low))
  of_all number is (Rest half) low high holds = absurd (omega (arith, low))
  of_all number is (Frame n) low high holds = together (λ box. (box.id ≡ n) × Any (MeetsAlong box) job.setup.frames) number is holds
  of_all number is (Upper n quarter index) low high holds = together (λ box. (box.id ≡ n) × SomeObstacle (upper_group job) index (IsHit job box quarter)) number is holds
  of_all number is (Nose n quarter other) low high holds = (holds.0, together (λ box. (box.id ≡ n) × IsNoseHit job box quarter (stage_of job other)) number is holds.1)
  of_all number is (Lower n quarter index) low high holds = together (λ box. (box.id ≡ n) × SomeObstacle (lower_group job stage) index (IsHit job box quarter)) number is holds
  of_all number is (SelfHit n quarter other) low high holds = absurd (omega (arith, high))
  of_all number is NoGauge low high holds = absurd (omega (arith, high))
  of_all number is Load low high holds = absurd (omega (arith, high))

  pub whole_of_box : (number : ℕ) → IsNumberOfBox (shape_of job) mask number → (reason : Reason) → IsOfBox job mask key number stage reason → HoldsAmong job mask key 3 6 stage reason
  whole_of_box number is reason holds = (holds.0, holds.1, of_all number is reason holds.0 holds.1 holds.2)

  pub all_below : (n : ℕ) (reason : Reason) → IsOfBoxBelow job mask key stage n reason → HoldsAmong job mask key 3 6 stage reason
  all_below n reason some = whole_of_box some.0 some.2 reason some.3

  pub below_all : (n : ℕ) → 13 + bend_count job ≤ n → length job.part.faces ≡ bend_count job + 1 → (reason : Reason) → HoldsAmong job mask key 3 6 stage reason → IsOfBoxBelow job mask key stage n reason
  below_all n many faces reason holds =
      let found = of_some reason holds.0 holds.1 holds.2 in
      (found.0, low found.0 found.1, found.1, (holds.0, holds.1, found.2))
    where
      low : (number : ℕ) → IsNumberOfBox (shape_of job) mask number → number < n
      low number (inl inside) = omega (arith, inside, many, faces)
      low number (inr (c, some, inside, folded, same)) = omega (arith, inside, same, many, faces)

-- ---- one box more
module _ (job : JobData) (mask : Mask) (key : GroupKey) (n : ℕ) where
  abbrev Below : ℕ → ℕ → Reason → Type 0
  Below number stage = IsOfBoxBelow job mask key stage number

  later : (stage : ℕ) (reason : Reason) → Below n stage reason → Below (n + 1) stage reason
  later stage reason some = let low = some.1 in (some.0, omega (arith, low), some.2, some.3)

  pub box_more : (xs ys zs : List ℕ) → stage_count job ≤ 8 → IsNumberOfBox (shape_of job) mask n → AreLeastCodes (stage_count job) (Below n) xs → AreLeastCodes (stage_count job) (IsOfBox job mask key n) ys
      → AreLanes zs (λ stage. min (slice_index xs stage) (slice_index ys stage)) → AreLeastCodes (stage_count job) (Below (n + 1)) zs
  box_more xs ys zs few is before here lanes =
      either_codes (stage_count job) (Below n) (IsOfBox job mask key n) (Below (n + 1)) xs ys zs few before here
      (λ stage reason within some. elim (cases_lt some.0 n) [
        | inl less ↦ inl (some.0, less, some.2, some.3)
        | inr rest ↦ let low = some.1 in let same : some.0 ≡ n = omega (arith, rest, low) in inr (subst (λ (number : ℕ). IsOfBox job mask key number stage reason) same some.3)
      ])
      (λ stage reason within some. later stage reason some)
      (λ stage reason within holds. (n, omega arith, is, holds)) lanes

  pub no_box_more : (codes : List ℕ) → (IsNumberOfBox (shape_of job) mask n → ⊥) → AreLeastCodes (stage_count job) (Below n) codes → AreLeastCodes (stage_count job) (Below (n + 1)) codes
  no_box_more codes none before =
      same_codes (stage_count job) (Below n) (Below (n + 1)) codes
      (λ stage reason within some. elim (cases_lt some.0 n) [
        | inl less ↦ (some.0, less, some.2, some.3)
        | inr rest ↦ let low = some.1 in let same : some.0 ≡ n = omega (arith, rest, low) in absurd (none (subst (λ (number : ℕ). IsNumberOfBox (shape_of job) mask number) same some.2))
      ])
      (λ stage reason within some. later stage reason some) before

  -- no box has a number between the last face and the first corner
  pub faces_alone : (codes : List ℕ) → n ≡ length job.part.faces → n ≤ 13 → AreLeastCodes (stage_count job) (Below n) codes → AreLeastCodes (stage_count job) (Below 13) codes
  faces_alone codes all few before =
      same_codes (stage_count job) (Below n) (Below 13) codes
      (λ stage reason within some. (some.0, face some.0 some.1 some.2, some.2, some.3))
      (λ stage reason within some. let low = some.1 in (some.0, omega (arith, low, few), some.2, some.3)) before
    where
      face : (number : ℕ) → number < 13 → IsNumberOfBox (shape_of job) mask number → number < n
      face number low (inl inside) = omega (arith, inside, all)
      face number low (inr (c, some, inside, folded, same)) = absurd (omega (arith, low, some, same))

-- the corner of a flat bend is no box
pub no_corner : (job : JobData) (mask : Mask) (b : ℕ) → length job.part.faces ≤ 13 → 0 < b → has mask b ≡ false → IsNumberOfBox (shape_of job) mask (12 + b) → ⊥
no_corner job mask b few some flat (inl inside) = omega (arith, inside, few, some)
no_corner job mask b few some flat (inr (c, more, inside, folded, same)) = let here : b ≡ c = omega (arith, same) in false≢true (sym flat ∙ ap (has mask) here ∙ folded)

-- the boxes of the faces, and then those of the corners, are those of the pose
pub boxes_gathered : (job : JobData) (mask : Mask) (key : GroupKey)
    → (map (λ k. stroke_box job mask key k 0) (face_numbers job.part.faces) ++ map (λ b. stroke_box job mask key (12 + b) 0) (filter (has mask) (bend_numbers job.part.faces))) ≡ (pose_at job mask key.group key.back 0).boxes
boxes_gathered job mask key =
    let made : ℕ → PoseBox = λ k. stroke_box job mask key k 0 in
    let corners = filter (has mask) (bend_numbers job.part.faces) in
    ap (λ (xs : List PoseBox). map made (face_numbers job.part.faces) ++ xs) (sym (map-map made (λ b. 12 + b) corners))
    ∙ sym (map-append made (face_numbers job.part.faces) (map (λ b. 12 + b) corners))

-- the part on the machine with its boxes and its places is the pose
pub pose_whole : (job : JobData) (stroke : StrokeKey) (pose : Pose) → IsPoseOf job stroke pose → pose.boxes.items ≡ (pose_at job stroke.mask stroke.of.group stroke.of.back 0).boxes
    → map map_of pose.places.items ≡ (pose_at job stroke.mask stroke.of.group stroke.of.back 0).places → pose_data pose ≡ pose_at job stroke.mask stroke.of.group stroke.of.back 0
pose_whole job stroke pose is boxes places = λ i. record { bend = is.bend i; group = is.group i; boxes = boxes i; places = places i; x0 = is.from i; x1 = is.to i }

-- ---- what is kept of a box
deciding_folded : (a b : Bool) → b ≡ true → (a && b) ≡ a
deciding_folded true b is = is
deciding_folded false b is = refl

module _ (job : JobData) (fit : IsJob job) (key : BoxKey) (s t : Mask) (of_s : s.0 < 2 ^ bend_count job) (of_t : t.0 < 2 ^ bend_count job) (at_s : IsBoxKey job s key) (at_t : IsBoxKey job t key) where
  agree : AgreeOnBox job.part.faces (parent_of job key.of.group) key.number s t
  agree zero decides = none_at_zero s ∙ sym (none_at_zero t)
  agree (suc k) decides = elim (cases_lt (bend_count job) (suc k)) [
    | inl past ↦ none_past s (bend_count job) (suc k) of_s past ∙ sym (none_past t (bend_count job) (suc k) of_t past)
    | inr last ↦
        let inside : suc k < length job.part.faces = omega (arith, last, fit.part.some_face) in
        let here : (m : Mask) → IsBoxKey job m key → has m (suc k) ≡ has key.folded (suc k) =
        λ m at. sym (at.folded (suc k) (omega arith) inside ∙ deciding_folded (has m (suc k)) (is_deciding job.part.faces (parent_of job key.of.group) key.number (suc k)) decides) in
        here s at_s ∙ sym (here t at_t)
  ]

  same_box : (stage : ℕ) → stroke_box job s key.of key.number stage ≡ stroke_box job t key.of key.number stage
  same_box stage =
      (box_alike (shape_of job) (shape_of_job job fit) key.of.group at_s.group.some key.of.back (stage_of job stage).x0 (stage_of job stage).x1 s t key.number at_s.number agree).same

  same_place : key.number < length job.part.faces → stroke_place job s key.of key.number ≡ stroke_place job t key.of key.number
  same_place face = face_place_alike (shape_of job) (shape_of_job job fit) key.of.group at_s.group.some key.of.back (stage_of job 0).x0 (stage_of job 0).x1 s t key.number face agree

  pub box_carried : (found : FoundBox) → IsFoundBox job s key found → IsFoundBox job t key found
  box_carried found is = record {
    codes = same_codes (stage_count job) (IsOfBox job s key.of key.number) (IsOfBox job t key.of key.number) found.codes.0
        (λ stage reason within holds. subst (λ (b : PoseBox). IsGiven job b key.of.back stage reason) (sym (same_box stage)) holds)
        (λ stage reason within holds. subst (λ (b : PoseBox). IsGiven job b key.of.back stage reason) (same_box stage) holds) is.codes;
    body = is.body ∙ same_box 0;
    near = is.near;
    place = λ face. is.place face ∙ same_place face;
  }
