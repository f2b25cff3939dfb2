use Rattle.std.proofs.Common.{◌≡◌, ◌∙◌, ap, sym, subst, ℕ, ◌<◌, ◌^◌, List, map, length, get_or, All, arith}
use Rattle.std.proofs.lemmas.List.Elements.{All-weaker}
use Rattle.brake_base.specs.Boxes.{image, IsBoxWithin}
use Rattle.brake_base.specs.Masks.{has, union}
use Rattle.brake_base.specs.Turns.{stay}
use Rattle.brake_base.proofs.Vectors.{box_within_more}
use Rattle.fold_boxes.specs.declared.part_boxes.PartBox.{PartBox}
use Rattle.fold_boxes.specs.Shapes.{ShapeData}
use Rattle.fold_boxes.specs.Folded.{boxes_of, IsNearBox, IsBoxId}
use Rattle.fold_boxes.specs.Pose.{PoseData, pose_data, is_beyond_some}
use Rattle.job_setup.specs.Setup.{shape_of}
use Rattle.job_setup.proofs.Validity.{shape_of_job}
use Rattle.handling_cost.specs.Plan.{pose_before}
use Rattle.sheet_views.specs.Drawing.{drawn}
use Rattle.sheet_views.specs.Marked.{marked_after}
use Rattle.sheet_views.proofs.Numbers.{IsNumber, part_numbers, drawn_after}
use Rattle.sheet_views.proofs.part_views.boxes_after.Goals as goal

pub marked_after-requires-clause-near : goal.marked_after-requires-clause-near
marked_after-requires-clause-near c =
    subst (λ (boxes : List PartBox). All (λ (b : PartBox). IsBoxWithin (2 ^ 39) b.body) boxes) (sym c.as_slice.ensures.value)
    (All-weaker IsNearBox (λ (b : PartBox). IsBoxWithin (2 ^ 39) b.body) (λ b near. box_within_more 300000000 (2 ^ 39) b.body (omega arith) near) _ c.boxes-folded.ensures.near)

pub marked_after-requires-clause-ids : goal.marked_after-requires-clause-ids
marked_after-requires-clause-ids c =
    let job = c.args.job.now in
    let shape = shape_of job in
    let folded = c.as_slice.ensures.value ∙ c.boxes-folded.ensures.value ∙ ap (λ (s : ShapeData). boxes_of s c.union.result) c.shape-shape.ensures.value in
    subst (All IsBoxId) (sym folded)
    (All-weaker (λ (b : PartBox). IsNumber (length job.part.faces) b.id) IsBoxId (λ b number. number.few) _ (part_numbers shape (shape_of_job job c.shape-shape.ensures.valid) c.union.result))

pub returns-clause-value : goal.returns-clause-value
returns-clause-value c =
    let job = c.args.job.now in
    let shape = shape_of job in
    let mask = c.args.key.now.mask in
    let pose = pose_data c.args.pose.now in
    let set = has c.faces_beyond-beyond.result in
    let whole = union mask pose.group in
    let face_0 = get_or (pose_before job mask c.args.action).places 0 stay in
    let folded = c.as_slice.ensures.value ∙ c.boxes-folded.ensures.value ∙ (λ i. boxes_of (c.shape-shape.ensures.value i) (c.union.ensures.value i)) in
    let numbers = part_numbers shape (shape_of_job job c.shape-shape.ensures.valid) whole in
    let same = subst (λ (s : ShapeData). (f : ℕ) → f < length s.part.faces → set f ≡ is_beyond_some s.part.faces (has pose.group) f) c.shape-shape.ensures.value c.faces_beyond-beyond.ensures.faces in
    c.marked_after.ensures.value ∙ (λ i. marked_after set pose (c.face_0.ensures.value i) (folded i)) ∙ drawn_after job set pose face_0 (boxes_of shape whole) same numbers
    ∙ ap (λ (p : PoseData). map (λ b. drawn job p b.id (image face_0 b.body)) (boxes_of shape (union mask p.group))) c.requires.pose
