-- The pose of an action: its boxes' numbers, and where face 0 lies in it.
use Rattle.std.proofs.Common.{◌≡◌, ◌^◌, ◌<◌, List, map, get_or, length, sym, subst, ap, ◌∙◌, arith}
use Rattle.std.specs.Prelude.{All}
use Rattle.std.proofs.lemmas.List.{length-map, get_or-map}
use Rattle.brake_base.specs.declared.space.Place.{Place}
use Rattle.brake_base.specs.declared.mask.Mask.{Mask}
use Rattle.brake_base.specs.declared.stroke.Key.{Key}
use Rattle.brake_base.specs.declared.stroke.Action.{Action}
use Rattle.brake_base.specs.Vectors.{IsWithin}
use Rattle.brake_base.specs.Turns.{Map, map_of, stay}
use Rattle.brake_base.proofs.Vectors.{within_more}
use Rattle.fold_boxes.specs.declared.posed_part.PoseBox.{PoseBox}
use Rattle.fold_boxes.specs.Pose.{PoseData}
use Rattle.job_setup.specs.Setup.{JobData, shape_of}
use Rattle.job_setup.specs.StageOf.{stage_of}
use Rattle.job_setup.specs.StrokeGroup.{group_of}
use Rattle.job_setup.specs.ValidJob.{IsJob}
use Rattle.job_setup.proofs.Validity.{shape_of_job}
use Rattle.job_setup.proofs.StageRanges.{stage_range}
use Rattle.handling_cost.specs.StepCost.{IsActionAt}
use Rattle.handling_cost.specs.Plan.{pose_before}
use Rattle.handling_cost.proofs.Actions.{few_bends}
use Rattle.handling_cost.proofs.ActionGroups.{action_groups}
use Rattle.sheet_views.proofs.FaceZero.{first_place, face_0_near}
use Rattle.sheet_views.proofs.Numbers.{IsNumber, pose_numbers}

-- the numbers of the boxes of a pose that is that of an action
pub numbers_before : (job : JobData) → IsJob job → (mask : Mask) (action : Action) (pose : PoseData) → pose ≡ pose_before job mask action → All (λ (b : PoseBox). IsNumber (length job.part.faces) b.id) pose.boxes
numbers_before job valid mask action pose is =
    let stage = stage_of job action.stage in
    subst (λ (p : PoseData). All (λ (b : PoseBox). IsNumber (length job.part.faces) b.id) p.boxes) (sym is) (pose_numbers (shape_of job) (shape_of_job job valid) mask (group_of job mask action.bend) action.back stage.x0 stage.x1)

-- the place of face 0 in it
pub record IsFaceZero (job : JobData) (mask : Mask) (action : Action) (place : Place) : Type 0 where
  pub value : map_of place ≡ get_or (pose_before job mask action).places 0 stay
  pub near : IsWithin (2 ^ 39) place.at

pub face_0_is : (job : JobData) → IsJob job → (key : Key) (action : Action) → IsActionAt job key action → (places : List Place) → map map_of places ≡ (pose_before job key.mask action).places
    → (0 < length places) × ((d : Place) → IsFaceZero job key.mask action (get_or places 0 d))
face_0_is job valid key action at places listed =
    let shape = shape_of job in
    let rules = shape_of_job job valid in
    let group = group_of job key.mask action.bend in
    let is_group = action_groups job (few_bends job valid) key action at in
    let stage = stage_of job action.stage in
    let range = stage_range job valid action.stage at.stage in
    let some = rules.part.some_face in
    let first = first_place shape key.mask group action.back stage.x0 stage.x1 some in
    let long = length-map places map_of in
    let same = ap length listed in
    let inside : 0 < length places = (let there = first.0 in omega (arith, long, same, there)) in
    let near = face_0_near shape rules key.mask group is_group action.back stage.x0 stage.x1 range.from range.to some in (
      inside,
      λ d.
          let here : map_of (get_or places 0 d) ≡ get_or (pose_before job key.mask action).places 0 stay =
          sym (get_or-map map_of places 0 d stay inside) ∙ ap (λ (ms : List Map). get_or ms 0 stay) listed in
          record { value = here; near = subst (λ (m : Map). IsWithin (2 ^ 39) m.shift) (sym (here ∙ first.1)) near },
    )

-- there is a face 0, and where it lies is near
pub held_near : (job : JobData) → IsJob job → (key : Key) (action : Action) → IsActionAt job key action → (0 < length (pose_before job key.mask action).places) × IsWithin (2 ^ 40) (get_or (pose_before job key.mask action).places 0 stay).shift
held_near job valid key action at =
    let shape = shape_of job in
    let rules = shape_of_job job valid in
    let group = group_of job key.mask action.bend in
    let is_group = action_groups job (few_bends job valid) key action at in
    let stage = stage_of job action.stage in
    let range = stage_range job valid action.stage at.stage in
    let some = rules.part.some_face in
    let first = first_place shape key.mask group action.back stage.x0 stage.x1 some in
    let near = face_0_near shape rules key.mask group is_group action.back stage.x0 stage.x1 range.from range.to some in
    (first.0, within_more (2 ^ 39) (2 ^ 40) _ (omega arith) (subst (λ (m : Map). IsWithin (2 ^ 39) m.shift) (sym first.1) near))
