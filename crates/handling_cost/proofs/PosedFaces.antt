-- The boxes of a pose hold one for each face.
use Rattle.std.proofs.Common.{◌≡◌, ℕ, ℤ, ◌+◌, ◌≤◌, length, map, filter, length-append, ap, ◌∙◌, arith}
use Rattle.std.proofs.lemmas.List.{length-map}
use Rattle.std.proofs.lemmas.List.FromFn.{length-range_with_len}
use Rattle.brake_base.specs.declared.mask.Mask.{Mask}
use Rattle.brake_base.specs.declared.stroke.Back.{Back}
use Rattle.brake_base.specs.Masks.{has}
use Rattle.unfolder.specs.Blank.{face_numbers, bend_numbers}
use Rattle.fold_boxes.specs.Shapes.{ShapeData}
use Rattle.fold_boxes.specs.Pose.{PoseData, box_ids, pose_of}

ids_enough : (shape : ShapeData) (mask : Mask) → length shape.part.faces ≤ length (box_ids shape mask)
ids_enough shape mask =
    let faces : length (face_numbers shape.part.faces) ≡ length shape.part.faces = length-range_with_len 0 (length shape.part.faces) in
    let all = length-append (face_numbers shape.part.faces) (map (λ b. 12 + b) (filter (has mask) (bend_numbers shape.part.faces))) in
    omega (arith, faces, all)

pub faces_boxed : (shape : ShapeData) (mask group : Mask) (back : Back) (x0 x1 : ℤ) (pose : PoseData) → pose ≡ pose_of shape mask group back x0 x1 → length shape.part.faces ≤ length pose.boxes
faces_boxed shape mask group back x0 x1 pose is =
    let boxes : length pose.boxes ≡ length (box_ids shape mask) = ap (λ (p : PoseData). length p.boxes) is ∙ length-map (box_ids shape mask) _ in
    let enough = ids_enough shape mask in
    omega (arith, boxes, enough)
