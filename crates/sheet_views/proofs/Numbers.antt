-- The numbers of the part's boxes, and what moves by them.
use Rattle.std.proofs.Common.{◌≡◌, ℕ, ◌+◌, ◌-◌, ◌<◌, ◌≤◌, Bool, if◌then◌else◌, List, map, filter, get_or, length, ℤ, ap, ◌∙◌, arith}
use Rattle.std.specs.Prelude.{All}
use Rattle.std.proofs.lemmas.List.Elements.{All-append, All-map}
use Rattle.brake_base.specs.declared.space.Box3.{Box3}
use Rattle.brake_base.specs.declared.mask.Mask.{Mask}
use Rattle.brake_base.specs.declared.stroke.Back.{Back}
use Rattle.brake_base.specs.Masks.{has}
use Rattle.brake_base.specs.Boxes.{image}
use Rattle.brake_base.specs.Turns.{Map}
use Rattle.unfolder.specs.Blank.{face_numbers, bend_numbers}
use Rattle.fold_boxes.specs.declared.part_boxes.PartBox.{PartBox}
use Rattle.fold_boxes.specs.declared.posed_part.PoseBox.{PoseBox}
use Rattle.fold_boxes.specs.Shapes.{ShapeData, IsShape}
use Rattle.fold_boxes.specs.Folded.{face_box, corner_box, boxes_of}
use Rattle.fold_boxes.specs.Pose.{PoseData, face_of_box, is_beyond_some, pose_box, box_ids, pose_of}
use Rattle.fold_boxes.proofs.Picked.{all_numbers, all_picked}
use Rattle.fold_boxes.proofs.PoseLists.{is_face, is_corner}
use Rattle.job_setup.specs.Setup.{JobData}
use Rattle.sheet_views.specs.declared.part_views.DrawnBox.{DrawnBox}
use Rattle.sheet_views.specs.Drawing.{is_in_line, drawn}
use Rattle.sheet_views.specs.Marked.{marked, marked_before, marked_after}
use Rattle.sheet_views.proofs.Kept.{map_same}

-- the number of a box of a part with so many faces
pub record IsNumber (faces id : ℕ) : Type 0 where
  pub few : id ≤ 24
  pub face : face_of_box id < faces

face_number : (f : ℕ) → f ≤ 12 → face_of_box f ≡ f
face_number f few = ap (λ (t : Bool). if t then f else f - 12) (is_face f few)

corner_number : (c : ℕ) → 0 < c → face_of_box (12 + c) ≡ c
corner_number c some = ap (λ (t : Bool). if t then 12 + c else (12 + c) - 12) (is_corner c some) ∙ omega arith

of_face : (n : ℕ) → n ≤ 13 → (f : ℕ) → f < n → IsNumber n f
of_face n few f inside =
    let same = face_number f (omega (arith, few, inside)) in
    record { few = omega (arith, few, inside); face = omega (arith, same, inside) }

of_corner : (n : ℕ) → n ≤ 13 → (c : ℕ) → 0 < c → c < n → IsNumber n (12 + c)
of_corner n few c some inside =
    let same = corner_number c some in
    record { few = omega (arith, few, inside); face = omega (arith, same, inside) }

-- the numbers of the boxes of a pose, and those of the part
posed_numbers : (shape : ShapeData) → IsShape shape → (mask : Mask) → All (IsNumber (length shape.part.faces)) (box_ids shape mask)
posed_numbers shape rules mask =
    let n = length shape.part.faces in
    let few = rules.part.few_faces in
    let folded = filter (has mask) (bend_numbers shape.part.faces) in
    All-append (IsNumber n) (face_numbers shape.part.faces) (map (λ b. 12 + b) folded)
    (all_numbers (IsNumber n) 0 n (λ k low high. of_face n few k (omega (arith, high))))
    (All-map (IsNumber n) (λ b. 12 + b) folded
    (all_picked (λ b. IsNumber n (12 + b)) (has mask) 1 (n - 1) (λ k low high member. of_corner n few k (omega (arith, low)) (omega (arith, low, high)))))

pub pose_numbers : (shape : ShapeData) → IsShape shape → (mask group : Mask) (back : Back) (x0 x1 : ℤ) → All (λ (b : PoseBox). IsNumber (length shape.part.faces) b.id) (pose_of shape mask group back x0 x1).boxes
pose_numbers shape rules mask group back x0 x1 =
    All-map (λ (b : PoseBox). IsNumber (length shape.part.faces) b.id) (pose_box shape mask group back x0 x1) (box_ids shape mask) (posed_numbers shape rules mask)

pub part_numbers : (shape : ShapeData) → IsShape shape → (mask : Mask) → All (λ (b : PartBox). IsNumber (length shape.part.faces) b.id) (boxes_of shape mask)
part_numbers shape rules mask =
    let n = length shape.part.faces in
    let few = rules.part.few_faces in
    let folded = filter (has mask) (bend_numbers shape.part.faces) in
    let Has = λ (b : PartBox). IsNumber (length shape.part.faces) b.id in
    All-append Has (map (face_box shape mask) (face_numbers shape.part.faces)) (map (corner_box shape mask) folded)
    (All-map Has (face_box shape mask) (face_numbers shape.part.faces) (all_numbers (IsNumber n) 0 n (λ k low high. of_face n few k (omega (arith, high)))))
    (All-map Has (corner_box shape mask) folded
    (all_picked (λ b. IsNumber n (12 + b)) (has mask) 1 (n - 1) (λ k low high member. of_corner n few k (omega (arith, low)) (omega (arith, low, high)))))

-- Boxes that are marked by the faces beyond a group are as they are drawn.
pub drawn_before : (job : JobData) (set : ℕ → Bool) (pose : PoseData) (boxes : List PoseBox) → ((f : ℕ) → f < length job.part.faces → set f ≡ is_beyond_some job.part.faces (has pose.group) f)
    → All (λ (b : PoseBox). IsNumber (length job.part.faces) b.id) boxes → marked_before set pose boxes ≡ map (λ b. drawn job pose b.id b.body) boxes
drawn_before job set pose boxes same numbers =
    map_same (λ (b : PoseBox). marked set pose b.id b.body) (λ b. drawn job pose b.id b.body) boxes (λ k d inside.
    let moves = same _ (numbers k d inside).face in
    λ i. record { id = (get_or boxes k d).id; body = (get_or boxes k d).body; moves = moves i; in_line = is_in_line pose (get_or boxes k d).body })

pub drawn_after : (job : JobData) (set : ℕ → Bool) (pose : PoseData) (m : Map) (boxes : List PartBox) → ((f : ℕ) → f < length job.part.faces → set f ≡ is_beyond_some job.part.faces (has pose.group) f)
    → All (λ (b : PartBox). IsNumber (length job.part.faces) b.id) boxes → marked_after set pose m boxes ≡ map (λ b. drawn job pose b.id (image m b.body)) boxes
drawn_after job set pose m boxes same numbers =
    map_same (λ (b : PartBox). marked set pose b.id (image m b.body)) (λ b. drawn job pose b.id (image m b.body)) boxes (λ k d inside.
    let moves = same _ (numbers k d inside).face in
    λ i. record { id = (get_or boxes k d).id; body = image m (get_or boxes k d).body; moves = moves i; in_line = is_in_line pose (image m (get_or boxes k d).body) })

-- a box that is marked under a map
pub marked_image : (set : ℕ → Bool) (pose : PoseData) (m : Map) (id : ℕ) (b body : Box3) (box : DrawnBox) → box ≡ marked set pose id body → body ≡ image m b → box ≡ marked set pose id (image m b)
marked_image set pose m id b body box is same = is ∙ ap (λ (other : Box3). marked set pose id other) same
