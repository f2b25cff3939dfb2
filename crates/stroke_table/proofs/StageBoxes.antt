-- Boxes and halves at each stage, from those of the pose at stage 0.
use Rattle.std.proofs.Common.{◌≡◌, ℕ, ◌<◌, ◌≤◌, min, List, map, length, get_or, slice_index, Option, refl, sym, ap, subst, ◌∙◌, arith}
use Rattle.std.specs.Prelude.{All, Any}
use Rattle.std.proofs.lemmas.List.{length-map, get_or-map}
use Rattle.std.proofs.lemmas.List.FromFn.{length-map-range_with_len, get_or-map-range_with_len}
use Rattle.brake_base.specs.declared.mask.Mask.{Mask}
use Rattle.brake_base.specs.declared.space.Place.{Place}
use Rattle.brake_base.specs.Turns.{Map, map_of}
use Rattle.brake_base.specs.declared.stroke.Back.{Back}
use Rattle.brake_base.specs.declared.reason.Reason.{Reason}
use Rattle.fold_boxes.specs.declared.posed_part.PoseBox.{PoseBox}
use Rattle.fold_boxes.specs.Pose.{IsGroup, pose_box, box_ids, IsNumberOfBox}
use Rattle.fold_boxes.specs.Posing.{IsNearPoseBox}
use Rattle.job_setup.specs.Setup.{JobData, shape_of, stage_count}
use Rattle.job_setup.specs.StageOf.{stage_of}
use Rattle.job_setup.specs.ValidJob.{IsJob}
use Rattle.job_setup.specs.Reasons.{pose_at, IsPoseAt}
use Rattle.sweep_check.specs.FirstReasons.{IsFirstAmong, pose_of_boxes}
use Rattle.sweep_check.specs.Pieces.{IsSolidBox}
use Rattle.sweep_check.proofs.Alike.{of_boxes}
use Rattle.sweep_check.proofs.PoseBoxes.{pose_solid}
use Rattle.box_support.proofs.Elements.{any_mapped}
use Rattle.box_support.proofs.Boxes.{id_found}
use Rattle.stage_lanes.specs.Codes.{IsCoded}
use Rattle.stage_lanes.specs.Lanes.{AreLanes}
use Rattle.stroke_table.specs.declared.keys.GroupKey.{GroupKey}
use Rattle.stroke_table.specs.BoxReasons.{start_at, shift_of, box_at, IsBoxOf}
use Rattle.stroke_table.specs.Codes.{IsLeastCode, AreLeastCodes, HoldsAmong, IsGiven, stroke_box, stroke_place, IsOfBox, at_stages, code_for}
use Rattle.stroke_table.proofs.Moved.{pose_box_moved}
use Rattle.stroke_table.proofs.MovedReasons.{halves_there, boxes_at, from_to}
use Rattle.stroke_table.proofs.FirstCodes.{coded, least_of_first, joined_codes}
use Rattle.stroke_table.proofs.BoxCodes.{whole_of_box}
use Rattle.stroke_table.proofs.LeastCodes.{same_codes, code_at_stages}

-- the halves meet at each stage as they do at stage 0
pub halves_at : (job : JobData) (mask group : Mask) (back : Back) (stage : ℕ) (boxes : List PoseBox) (found : Option Reason) → boxes ≡ (pose_at job mask group back 0).boxes → IsFirstAmong job (pose_of_boxes boxes) back stage 7 7 found
    → IsFirstAmong job (pose_at job mask group back stage) back stage 7 7 found
halves_at job mask group back stage boxes found same first =
    of_boxes job (pose_at job mask group back stage) (map (box_at job group stage) boxes) back stage 7 7 found found (ap (map (box_at job group stage)) same ∙ boxes_at job mask group back stage) refl (omega arith) (omega arith)
    (halves_there job (shift_of job group stage) boxes back stage found first)

module _ (job : JobData) (fit : IsJob job) (mask : Mask) (key : GroupKey) (number : ℕ) (is : IsNumberOfBox (shape_of job) mask number) where
  -- what holds of all boxes of the stroke holds of that of the number
  at_number : (P : PoseBox → Type 0) (stage : ℕ) → All P (pose_at job mask key.group key.back stage).boxes → P (stroke_box job mask key number stage)
  at_number P stage all =
      let make = pose_box (shape_of job) mask key.group key.back (stage_of job stage).x0 (stage_of job stage).x1 in
      let here = any_mapped (λ (box : PoseBox). box ≡ make number) make (box_ids (shape_of job) mask) (id_found (shape_of job) mask number (λ n. make n ≡ make number) is refl) in
      subst P (here.3 ∙ here.4) (all here.0 here.1 here.2)

  -- it lies at each stage where the stroke has it
  pub box_there : (body : PoseBox) → body ≡ stroke_box job mask key number 0 → (stage : ℕ) → box_at job key.group stage body ≡ stroke_box job mask key number stage
  box_there body same stage =
      let first = stage_of job 0 in
      let at = stage_of job stage in
      ap (box_at job key.group stage) same
      ∙ sym (pose_box_moved (shape_of job) mask key.group key.back first.x0 first.x1 at.x0 at.x1 (shift_of job key.group stage) (from_to (start_at job key.group 0) (start_at job key.group stage)) number)

  -- what it gives at a stage has a code
  pub given_coded : (body : PoseBox) → body ≡ stroke_box job mask key number 0 → (stage : ℕ) (reason : Reason) → IsGiven job (box_at job key.group stage body) key.back stage reason → IsCoded reason
  given_coded body same stage reason holds =
      coded job fit mask key 3 6 stage reason (whole_of_box job mask key stage number is reason (subst (λ (b : PoseBox). IsGiven job b key.back stage reason) (box_there body same stage) holds))

  pub codes_there : (body : PoseBox) (codes : List ℕ) → body ≡ stroke_box job mask key number 0 → AreLeastCodes (stage_count job) (λ stage. IsGiven job (box_at job key.group stage body) key.back stage) codes
      → AreLeastCodes (stage_count job) (IsOfBox job mask key number) codes
  codes_there body codes same are =
      same_codes (stage_count job) (λ stage. IsGiven job (box_at job key.group stage body) key.back stage) (IsOfBox job mask key number) codes
      (λ stage reason within holds. subst (λ (b : PoseBox). IsGiven job b key.back stage reason) (sym (box_there body same stage)) holds)
      (λ stage reason within holds. subst (λ (b : PoseBox). IsGiven job b key.back stage reason) (box_there body same stage) holds) are

  -- the box lies near, and has an interior at each stage
  pub is_box_of : (body : PoseBox) → IsGroup (shape_of job) mask key.group → body ≡ stroke_box job mask key number 0 → IsNearPoseBox body → IsBoxOf job key.group body
  is_box_of body group same near = record {
    near = near;
    solid = λ stage inside.
        let pose : IsPoseAt job stage (pose_at job mask key.group key.back stage) = record { mask = mask; group = key.group; back = key.back; stroke = group; within = inside; value = refl } in
        subst IsSolidBox (sym (box_there body same stage)) (at_number IsSolidBox stage (pose_solid job stage (pose_at job mask key.group key.back stage) fit pose).solid);
  }

-- ---- the kinds that look at the whole part
module _ (job : JobData) (fit : IsJob job) (mask : Mask) (key : GroupKey) where
  -- the codes of Cover to Load, from those of Cover to Lower, that of SelfHit, which is the same at each stage, and those of Load
  pub codes_to_load : (boxes : List PoseBox) (hit : Option Reason) (code : ℕ) (before hits with_hits load others : List ℕ) → boxes ≡ (pose_at job mask key.group key.back 0).boxes → ((stage : ℕ) → IsFirstAmong job (pose_of_boxes boxes) key.back stage 7 7 hit)
      → code ≡ code_for hit → AreLanes hits (at_stages code (stage_count job)) → AreLeastCodes (stage_count job) (HoldsAmong job mask key 1 6) before → AreLanes with_hits (λ stage. min (slice_index before stage) (slice_index hits stage))
      → AreLeastCodes (stage_count job) (HoldsAmong job mask key 8 8) load → AreLanes others (λ stage. min (slice_index with_hits stage) (slice_index load stage)) → AreLeastCodes (stage_count job) (HoldsAmong job mask key 1 8) others
  codes_to_load boxes hit code before hits with_hits load others same first is alike up_to_lower joined of_load all =
      let n = stage_count job in
      let few : n ≤ 8 = omega (arith, fit.setup.stages.few_stages) in
      let halves : (stage : ℕ) → stage < n → IsLeastCode (HoldsAmong job mask key 7 7 stage) code =
      λ stage within.
      subst (IsLeastCode (HoldsAmong job mask key 7 7 stage)) (sym is)
      (least_of_first job (pose_at job mask key.group key.back stage) key.back stage 7 7 hit (coded job fit mask key 7 7 stage) (halves_at job mask key.group key.back stage boxes hit same (first stage))) in
      let of_halves = code_at_stages n (HoldsAmong job mask key 7 7) hits code few halves alike in
      let to_halves = joined_codes job fit mask key 1 6 7 n before hits with_hits few (omega arith) (omega arith) up_to_lower of_halves joined in
      joined_codes job fit mask key 1 7 8 n with_hits load others few (omega arith) (omega arith) to_halves of_load all
