-- The frames of the code as maps.
use Rattle.std.proofs.Common.{◌≡◌, ℕ, zero, suc, ◌+◌, ◌-◌, ◌<◌, ◌≤◌, ℤ, pos, ◌*ℤ◌, List, [], ◌∷◌, ◌++◌, length, get_or, refl, sym, ◌∙◌, ap, subst, arith, length-append}
use Rattle.std.specs.Int.{int_min, int_max}
use Rattle.std.proofs.Math.ListN.{get_or-append}
use Rattle.std.proofs.lemmas.List.{get_or_push}
use Rattle.std.proofs.lemmas.Int.{ints}
use Rattle.brake_base.specs.Vectors.{vector}
use Rattle.brake_base.specs.Turns.{Matrix, Map, mapped, after}
use Rattle.part_file.specs.declared.part.Joint.{Joint}
use Rattle.part_file.specs.Part.{PartData, FaceData, face_at, IsPart}
use Rattle.unfolder.specs.declared.blank.FlatRect.{FlatRect}
use Rattle.unfolder.specs.declared.frame.Frame.{Frame}
use Rattle.unfolder.specs.Cores.{joint_of, side_point}
use Rattle.unfolder.specs.Blank.{side_matrix, flat_step, flat, flat_image}
use Rattle.unfolder.specs.Frames.{frame_map, IsFrameWithin, IsFrameOf, AreFrames}
use Rattle.unfolder.proofs.ChainLemmas.{joint_of_part, to_root-root, to_root-bend}

pub flat_image_is : (m : Map) (r : FlatRect) (ax ay cx cy : ℤ) → vector ax ay (pos 0) ≡ mapped m (vector r.x0 r.y0 (pos 0)) → vector cx cy (pos 0) ≡ mapped m (vector r.x1 r.y1 (pos 0))
    → record { x0 = int_min ax cx; x1 = int_max ax cx; y0 = int_min ay cy; y1 = int_max ay cy } ≡ flat_image m r
flat_image_is m r ax ay cx cy first second = λ i. record { x0 = int_min (first i).x (second i).x; x1 = int_max (first i).x (second i).x; y0 = int_min (first i).y (second i).y; y1 = int_max (first i).y (second i).y }

pub flat_step_is : (faces : List FaceData) (q : ℤ) (b : ℕ) (joint : Joint) (parent : FaceData) (turn : Matrix) (x y : ℤ)
    → joint ≡ joint_of faces b → parent ≡ face_at faces joint.on → turn ≡ side_matrix joint.side → vector x y (pos 0) ≡ side_point joint.side parent joint.at (pos 2 *ℤ q)
    → record { turn = turn; shift = vector x y (pos 0) } ≡ flat_step faces q b
flat_step_is faces q b joint parent turn x y joint_is parent_at turn_is point_is =
    let parent_is : parent ≡ face_at faces (joint_of faces b).on = parent_at ∙ ap (λ (j : Joint). face_at faces j.on) joint_is in
    let shift : vector x y (pos 0) ≡ side_point (joint_of faces b).side (face_at faces (joint_of faces b).on) (joint_of faces b).at (pos 2 *ℤ q) = point_is ∙ (λ i. side_point (joint_is i).side (parent_is i) (joint_is i).at (pos 2 *ℤ q)) in
    let matrix : turn ≡ side_matrix (joint_of faces b).side = turn_is ∙ ap (λ (j : Joint). side_matrix j.side) joint_is in
    λ i. record { turn = matrix i; shift = shift i }

-- what holds of each element and its number holds when one more is pushed
pub each_pushed : {X : Type 0} (P : ℕ → X → Type 0) (xs ys : List X) (x : X) → ys ≡ xs ++ x ∷ [] → ((f : ℕ) (d : X) → f < length xs → P f (get_or xs f d)) → P (length xs) x → (f : ℕ) (d : X) → f < length ys → P f (get_or ys f d)
each_pushed P xs ys x pushed each here f d inside =
    subst (λ zs. P f (get_or zs f d)) (sym pushed) (by_place (f - length xs) (length xs - f) refl refl)
  where
    by_place : (past before : ℕ) → past ≡ f - length xs → before ≡ length xs - f → P f (get_or (xs ++ x ∷ []) f d)
    by_place past (suc before) e g =
        let below : f < length xs = omega arith in
        subst (P f) (sym (get_or-append xs (x ∷ []) d f below)) (each f d below)
    by_place past zero e g =
        let long : length ys ≡ length xs + 1 = ap length pushed ∙ length-append xs (x ∷ []) in
        let last : length xs ≡ f = omega arith in
        subst (λ n. P n (get_or (xs ++ x ∷ []) n d)) last (subst (P (length xs)) (sym (get_or_push xs x d (length xs) refl)) here)

-- a wider bound
pub frame_within_more : (m n : ℕ) (frame : Frame) → m ≤ n → IsFrameWithin m frame → IsFrameWithin n frame
frame_within_more m n frame more within =
    let x = within.x in
    let y = within.y in
    let x_low = x.low in
    let x_high = x.high in
    let y_low = y.low in
    let y_high = y.high in
    record { turn = within.turn; x = record { low = omega (arith, ints); high = omega (arith, ints) }; y = record { low = omega (arith, ints); high = omega (arith, ints) } }

-- the frame that the code reads
pub read_frame : (faces : List FaceData) (q : ℤ) (xs ys : List Frame) (i f : ℕ) (d : Frame) → AreFrames faces q ys → xs ≡ ys → i ≡ f → f < length ys → IsFrameOf faces q f (get_or xs i d)
read_frame faces q xs ys i f d are same at inside = subst (λ zs. IsFrameOf faces q f (get_or zs i d)) (sym same) (subst (λ n. IsFrameOf faces q f (get_or ys n d)) (sym at) (are f d inside))

-- the root lies where it is
root_frame : (faces : List FaceData) (q : ℤ) → IsFrameOf faces q 0 (record { turn = 0; x = pos 0; y = pos 0 })
root_frame faces q = record {
  map = sym (to_root-root faces (flat_step faces q));
  within = record { turn = omega arith; x = record { low = omega (arith, ints); high = omega (arith, ints) }; y = record { low = omega (arith, ints); high = omega (arith, ints) } };
}

first_frame_is : (faces : List FaceData) (q : ℤ) (frame : Frame) → frame.turn ≡ 0 → frame.x ≡ pos 0 → frame.y ≡ pos 0 → IsFrameOf faces q 0 frame
first_frame_is faces q frame turn x y = subst (IsFrameOf faces q 0) (λ i. record { turn = sym turn i; x = sym x i; y = sym y i }) (root_frame faces q)

-- the frame that stands first, alone
pub first_frame : (faces : List FaceData) (q : ℤ) (none frames : List Frame) (frame : Frame) → none ≡ [] → frames ≡ none ++ frame ∷ [] → frame.turn ≡ 0 → frame.x ≡ pos 0 → frame.y ≡ pos 0 → AreFrames faces q frames
first_frame faces q none frames frame empty pushed turn x y =
    each_pushed (IsFrameOf faces q) [] frames frame (pushed ∙ ap (λ xs. xs ++ frame ∷ []) empty) (λ f d inside. absurd (omega arith)) (first_frame_is faces q frame turn x y)

-- a child's frame is its parent's after the step
pub next_frame : (p : PartData) → IsPart p → (q : ℤ) (b : ℕ) (joint : Joint) (parent child frame : Frame)
    → joint ≡ joint_of p.faces b → 0 < b → b < length p.faces → joint.on < b → IsFrameOf p.faces q joint.on parent → frame_map child ≡ flat_step p.faces q b
    → frame_map frame ≡ after (frame_map parent) (frame_map child) → ((bends : ℕ) → IsFrameWithin bends parent → IsFrameWithin (bends + 1) frame) → IsFrameOf p.faces q b frame
next_frame p part q b joint parent child frame joint_is some inside earlier parent_is child_is frame_is within = record {
  map =
      frame_is
      ∙ (λ i. after (parent_is.map i) (child_is i))
      ∙ (λ i. after (flat p.faces q (joint_is i).on) (flat_step p.faces q b))
      ∙ sym (to_root-bend p.faces (flat_step p.faces q) (joint_of_part p part) b some inside);
  within = frame_within_more (joint.on + 1) b frame (omega arith) (within joint.on parent_is.within);
}
