use Rattle.std.proofs.Common.{◌≡◌, ◌∙◌, ap, sym, subst, ℕ, ◌<◌, ◌≤◌, List, map, length, All}
use Rattle.std.proofs.lemmas.List.Elements.{All-weaker}
use Rattle.brake_base.specs.Masks.{has}
use Rattle.fold_boxes.specs.declared.posed_part.PoseBox.{PoseBox}
use Rattle.fold_boxes.specs.Shapes.{ShapeData}
use Rattle.fold_boxes.specs.Pose.{PoseData, pose_data, is_beyond_some}
use Rattle.sheet_views.specs.Drawing.{drawn}
use Rattle.sheet_views.specs.Marked.{marked_before}
use Rattle.sheet_views.specs.Near.{AreNearBoxes}
use Rattle.sheet_views.proofs.NearViews.{near_before}
use Rattle.sheet_views.proofs.Numbers.{IsNumber, drawn_before}
use Rattle.sheet_views.proofs.Poses.{numbers_before}
use Rattle.sheet_views.proofs.part_views.boxes_before.Goals as goal

pub marked_before-requires-clause-ids : goal.marked_before-requires-clause-ids
marked_before-requires-clause-ids c =
    let job = c.args.job.now in
    let numbers = numbers_before job c.shape.ensures.valid c.args.key.now.mask c.args.action (pose_data c.args.pose.now) c.requires.pose in
    subst (λ (boxes : List PoseBox). All (λ (b : PoseBox). b.id ≤ 24) boxes) (sym c.as_slice.ensures.value)
    (All-weaker (λ (b : PoseBox). IsNumber (length job.part.faces) b.id) (λ (b : PoseBox). b.id ≤ 24) (λ b number. number.few) _ numbers)

pub returns-clause-value : goal.returns-clause-value
returns-clause-value c =
    let job = c.args.job.now in
    let pose = pose_data c.args.pose.now in
    let set = has c.faces_beyond-beyond.result in
    let numbers = numbers_before job c.shape.ensures.valid c.args.key.now.mask c.args.action pose c.requires.pose in
    let same = subst (λ (s : ShapeData). (f : ℕ) → f < length s.part.faces → set f ≡ is_beyond_some s.part.faces (has pose.group) f) c.shape.ensures.value c.faces_beyond-beyond.ensures.faces in
    c.marked_before.ensures ∙ ap (marked_before set pose) c.as_slice.ensures.value ∙ drawn_before job set pose pose.boxes same numbers
    ∙ ap (λ (p : PoseData). map (λ b. drawn job p b.id b.body) p.boxes) c.requires.pose

pub returns-clause-near : goal.returns-clause-near
returns-clause-near c =
    let pose = c.args.pose.now in
    let set = has c.faces_beyond-beyond.result in
    subst AreNearBoxes (sym (c.marked_before.ensures ∙ ap (marked_before set (pose_data pose)) c.as_slice.ensures.value)) (near_before set (pose_data pose) pose.boxes.items c.requires.near)
