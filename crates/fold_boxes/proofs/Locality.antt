-- Where a box lies in a pose depends on the folded bends only through those on the way from the lead's parent to the box:
-- two sets of folded bends that agree on these have the box at the same place.
use Rattle.std.proofs.Common.{◌≡◌, ℕ, suc, ◌+◌, ◌<◌, ◌≤◌, ℤ, cond, List, length, All, IsTrue, Some, None, ◌⊎◌, inl, inr, sym, ◌∙◌, ap, subst, arith}
use Rattle.std.specs.Prelude.{unwrap_or}
use Rattle.std.proofs.lemmas.List.{get_or_past}
use Rattle.std.proofs.lemmas.Bool.{cases_lt}
use Rattle.brake_base.specs.declared.mask.Mask.{Mask}
use Rattle.brake_base.specs.declared.space.Box3.{Box3}
use Rattle.brake_base.specs.declared.stroke.Back.{Back}
use Rattle.brake_base.specs.Turns.{Map, IsTurn, transpose, after, stay}
use Rattle.brake_base.specs.Boxes.{image}
use Rattle.brake_base.specs.Masks.{has}
use Rattle.brake_base.proofs.Maps.{after-turn, after_assoc, after-stay, stay-after}
use Rattle.part_file.specs.declared.part.Joint.{Joint}
use Rattle.part_file.specs.Part.{FaceData, half_thickness, joint_at, no_face, IsWalk, stay as stays, inward, onward}
use Rattle.part_file.proofs.Joints.{is_earlier}
use Rattle.unfolder.specs.Cores.{joint_of, no_joint}
use Rattle.unfolder.specs.Blank.{flat_step}
use Rattle.unfolder.specs.Design.{design_step}
use Rattle.unfolder.proofs.ChainLemmas.{joint_of_part}
use Rattle.unfolder.proofs.PlaceLaws.{place-bend}
use Rattle.fold_boxes.specs.Shapes.{ShapeData, IsShape}
use Rattle.fold_boxes.specs.Folded.{place_of, core_box, corner_column}
use Rattle.fold_boxes.specs.Pose.{lead_of, parent_place, posed_frame, inverse_of, pose_map, half_of, part_body, body_of, pose_box, posed_place}
use Rattle.fold_boxes.proofs.Folding.{cores_of_shape}
use Rattle.fold_boxes.proofs.Numbered.{IsNumbered, numbered_is_turn, numbered_product, numbered_transpose, numbered_frame, transpose_first, inverse-after, after-inverse, inverse_of-after}
use Rattle.fold_boxes.proofs.Turning.{image_after}
use Rattle.fold_boxes.proofs.Leads.{lead_is}
use Rattle.fold_boxes.proofs.PoseLists.{body_at_face, body_at_corner}
use Rattle.fold_boxes.proofs.PoseEffect.{numbered_step, numbered_place}

-- two sets of bends agree on some of them
abbrev pub Agree : Mask → Mask → List ℕ → Type 0
Agree s t bends = All (λ b. has s b ≡ has t b) bends

-- where a bend's child lies on its parent
abbrev step : ShapeData → Mask → ℕ → Map
step shape mask b = cond (has mask b) (design_step shape.part.faces (half_thickness shape.part) b) (flat_step shape.part.faces shape.q b)

-- where face g lies as seen from face f
abbrev seen_from : ShapeData → Mask → ℕ → ℕ → Map
seen_from shape mask f g = after (inverse_of (place_of shape mask f)) (place_of shape mask g)

placed_on : (shape : ShapeData) → IsShape shape → (mask : Mask) (b : ℕ) → 0 < b → b < length shape.part.faces → place_of shape mask b ≡ after (place_of shape mask (joint_of shape.part.faces b).on) (step shape mask b)
placed_on shape rules mask b some inside = place-bend shape.part rules.part shape.q (half_thickness shape.part) (cores_of_shape shape rules) (has mask) b some inside

step_alike : (shape : ShapeData) (s t : Mask) (b : ℕ) → has s b ≡ has t b → step shape s b ≡ step shape t b
step_alike shape s t b same = ap (λ u. cond u (design_step shape.part.faces (half_thickness shape.part) b) (flat_step shape.part.faces shape.q b)) same

-- a face with a joint is one of the part, and no root
record HasParent (faces : List FaceData) (f : ℕ) (joint : Joint) : Type 0 where
  inside : f < length faces
  some : 0 < f
  is : joint_of faces f ≡ joint
  earlier : joint.on < f

has_parent : (shape : ShapeData) → IsShape shape → (f : ℕ) (joint : Joint) → joint_at shape.part.faces f ≡ Some joint → HasParent shape.part.faces f joint
has_parent shape rules f joint has_joint =
    let inside = within (cases_lt f (length shape.part.faces)) in
    let earlier = is_earlier shape.part rules.part f inside joint has_joint in
    record { inside = inside; some = omega (arith, earlier); is = ap (λ o. unwrap_or o no_joint) has_joint; earlier = earlier }
  where
    within : (f < length shape.part.faces) ⊎ (length shape.part.faces ≤ f) → f < length shape.part.faces
    within (inl low) = low
    within (inr past) =
        let none : joint_at shape.part.faces f ≡ None = ap (λ (face : FaceData). face.joint) (get_or_past shape.part.faces f no_face past) in
        absurd (cc)

-- from a face and from its parent the others are seen one step apart
seen_inward : (shape : ShapeData) → IsShape shape → (mask : Mask) (f g : ℕ) → 0 < f → f < length shape.part.faces
    → seen_from shape mask f g ≡ after (inverse_of (step shape mask f)) (seen_from shape mask (joint_of shape.part.faces f).on g)
seen_inward shape rules mask f g some inside =
    let on = (joint_of shape.part.faces f).on in
    let earlier : on < f = (joint_of_part shape.part rules.part).on f some inside in
    let before = place_of shape mask on in
    let own = step shape mask f in
    let back = inverse_of-after before own (numbered_place shape rules mask on (omega (arith, earlier, inside))) (numbered_step shape f (has mask f)) in
    ap (λ (m : Map). after (inverse_of m) (place_of shape mask g)) (placed_on shape rules mask f some inside)
    ∙ ap (λ (m : Map). after m (place_of shape mask g)) back
    ∙ after_assoc (inverse_of own) (inverse_of before) (place_of shape mask g)

seen_onward : (shape : ShapeData) → IsShape shape → (mask : Mask) (f g : ℕ) → 0 < f → f < length shape.part.faces
    → seen_from shape mask (joint_of shape.part.faces f).on g ≡ after (step shape mask f) (seen_from shape mask f g)
seen_onward shape rules mask f g some inside =
    let own = step shape mask f in
    let from_parent = seen_from shape mask (joint_of shape.part.faces f).on g in
    sym (stay-after from_parent) ∙ ap (λ (m : Map). after m from_parent) (sym (after-inverse own (numbered_step shape f (has mask f))))
    ∙ after_assoc own (inverse_of own) from_parent ∙ ap (after own) (sym (seen_inward shape rules mask f g some inside))

seen_itself : (shape : ShapeData) → IsShape shape → (mask : Mask) (f : ℕ) → f < length shape.part.faces → seen_from shape mask f f ≡ stay
seen_itself shape rules mask f inside = inverse-after (place_of shape mask f) (transpose_first (place_of shape mask f).turn (numbered_place shape rules mask f inside))

-- along a walk on whose bends the sets agree a face is seen at the same place
seen_alike : (shape : ShapeData) → IsShape shape → (s t : Mask) (f g : ℕ) (bends : List ℕ) → IsWalk shape.part.faces f bends g → f < length shape.part.faces → Agree s t bends → seen_from shape s f g ≡ seen_from shape t f g
seen_alike shape rules s t a z bends (stays f g same) inside agree =
    let itself : (m : Mask) → seen_from shape m f g ≡ stay = λ m. ap (seen_from shape m f) (sym same) ∙ seen_itself shape rules m f inside in
    itself s ∙ sym (itself t)
seen_alike shape rules s t a z bends (inward f g joint rest has_joint walk) inside agree =
    let parent = has_parent shape rules f joint has_joint in
    let on : joint.on < length shape.part.faces = omega (arith, parent.earlier, parent.inside) in
    let further : seen_from shape s joint.on g ≡ seen_from shape t joint.on g = seen_alike shape rules s t joint.on g rest walk on (λ k d low. agree (suc k) d (omega (arith, low))) in
    let own = step_alike shape s t f (agree 0 f (omega arith)) in
    let inwards : (m : Mask) → seen_from shape m f g ≡ after (inverse_of (step shape m f)) (seen_from shape m joint.on g) =
    λ m. seen_inward shape rules m f g parent.some parent.inside ∙ ap (λ (j : Joint). after (inverse_of (step shape m f)) (seen_from shape m j.on g)) parent.is in
    inwards s ∙ (λ i. after (inverse_of (own i)) (further i)) ∙ sym (inwards t)
seen_alike shape rules s t a z bends (onward f g joint rest has_joint walk) inside agree =
    let parent = has_parent shape rules f joint has_joint in
    let further : seen_from shape s f g ≡ seen_from shape t f g = seen_alike shape rules s t f g rest walk parent.inside (λ k d low. agree (suc k) d (omega (arith, low))) in
    let own = step_alike shape s t f (agree 0 f (omega arith)) in
    let onwards : (m : Mask) → seen_from shape m joint.on g ≡ after (step shape m f) (seen_from shape m f g) =
    λ m. ap (λ (j : Joint). seen_from shape m j.on g) (sym parent.is) ∙ seen_onward shape rules m f g parent.some parent.inside in
    onwards s ∙ (λ i. after (own i) (further i)) ∙ sym (onwards t)

-- ---- in a pose
posed_is : (shape : ShapeData) (mask group : Mask) (back : Back) (x0 x1 : ℤ) (f : ℕ)
    → posed_place shape mask group back x0 x1 f ≡ after (posed_frame shape group back x0 x1) (seen_from shape mask (joint_of shape.part.faces (lead_of shape group)).on f)
unfolding pose_map
posed_is shape mask group back x0 x1 f = after_assoc (posed_frame shape group back x0 x1) (inverse_of (parent_place shape mask (lead_of shape group))) (place_of shape mask f)

pub pose_map_turn : (shape : ShapeData) → IsShape shape → (mask group : Mask) → IsTrue (has group (lead_of shape group)) → (back : Back) (x0 x1 : ℤ) → IsTurn (pose_map shape mask group back x0 x1).turn
unfolding pose_map
pose_map_turn shape rules mask group member back x0 x1 =
    let b = lead_of shape group in
    let lead = lead_is shape group member in
    let joint = joint_of shape.part.faces b in
    let earlier : joint.on < b = (joint_of_part shape.part rules.part).on b lead.some lead.inside in
    let place = parent_place shape mask b in
    let frame = posed_frame shape group back x0 x1 in
    let numbered = numbered_place shape rules mask joint.on (omega (arith, earlier, lead.inside)) in
    numbered_is_turn (after frame (inverse_of place)).turn
    (subst IsNumbered (sym (after-turn frame (inverse_of place))) (numbered_product frame.turn (transpose place.turn) (numbered_frame joint.side joint.dir back) (numbered_transpose place.turn numbered)))

-- a face lies at the same place in the poses of a group
pub place_alike : (shape : ShapeData) → IsShape shape → (group : Mask) → IsTrue (has group (lead_of shape group)) → (back : Back) (x0 x1 : ℤ) (s t : Mask) (f : ℕ) (bends : List ℕ)
    → IsWalk shape.part.faces (joint_of shape.part.faces (lead_of shape group)).on bends f → Agree s t bends
    → posed_place shape s group back x0 x1 f ≡ posed_place shape t group back x0 x1 f
place_alike shape rules group member back x0 x1 s t f bends walk agree =
    let b = lead_of shape group in
    let lead = lead_is shape group member in
    let on = (joint_of shape.part.faces b).on in
    let earlier : on < b = (joint_of_part shape.part rules.part).on b lead.some lead.inside in
    let alike = seen_alike shape rules s t on f bends walk (omega (arith, earlier, lead.inside)) agree in
    posed_is shape s group back x0 x1 f ∙ ap (after (posed_frame shape group back x0 x1)) alike ∙ sym (posed_is shape t group back x0 x1 f)

-- a box that is one of a face, or of a bend's corner, from its place
box_posed : (shape : ShapeData) → IsShape shape → (mask group : Mask) → IsTrue (has group (lead_of shape group)) → (back : Back) (x0 x1 : ℤ) (id f : ℕ) (body : Box3) → part_body shape mask id ≡ image (place_of shape mask f) body
    → body_of shape mask group back x0 x1 id ≡ image (posed_place shape mask group back x0 x1 f) body
box_posed shape rules mask group member back x0 x1 id f body is =
    ap (image (pose_map shape mask group back x0 x1)) is
    ∙ image_after (pose_map shape mask group back x0 x1) (place_of shape mask f) body (pose_map_turn shape rules mask group member back x0 x1)

-- the box of a face: its deciding bends are those on the way to the face
pub face_alike : (shape : ShapeData) → IsShape shape → (group : Mask) → IsTrue (has group (lead_of shape group)) → (back : Back) (x0 x1 : ℤ) (s t : Mask) (f : ℕ) (bends : List ℕ)
    → f < length shape.part.faces → IsWalk shape.part.faces (joint_of shape.part.faces (lead_of shape group)).on bends f → Agree s t bends
    → pose_box shape s group back x0 x1 f ≡ pose_box shape t group back x0 x1 f
face_alike shape rules group member back x0 x1 s t f bends inside walk agree =
    let few = rules.part.few_faces in
    let low : f ≤ 12 = omega (arith, inside, few) in
    let posed : (m : Mask) → body_of shape m group back x0 x1 f ≡ image (posed_place shape m group back x0 x1 f) (core_box shape f) =
    λ m. box_posed shape rules m group member back x0 x1 f f (core_box shape f) (body_at_face shape m f low) in
    let body = posed s ∙ ap (λ (m : Map). image m (core_box shape f)) (place_alike shape rules group member back x0 x1 s t f bends walk agree) ∙ sym (posed t) in
    λ i. record { id = f; half = half_of shape group back f; body = body i }

-- the parent of a bend lies at the same place where the bend's child does and the bend is folded in both sets or in none
parent_alike : (shape : ShapeData) → IsShape shape → (group : Mask) → IsTrue (has group (lead_of shape group)) → (back : Back) (x0 x1 : ℤ) (s t : Mask) (c : ℕ) (bends : List ℕ)
    → 0 < c → c < length shape.part.faces → IsWalk shape.part.faces (joint_of shape.part.faces (lead_of shape group)).on bends c → Agree s t bends → has s c ≡ has t c
    → posed_place shape s group back x0 x1 (joint_of shape.part.faces c).on ≡ posed_place shape t group back x0 x1 (joint_of shape.part.faces c).on
parent_alike shape rules group member back x0 x1 s t c bends some inside walk agree own =
    let on = (joint_of shape.part.faces c).on in
    let back_to : (m : Mask) → posed_place shape m group back x0 x1 on ≡ after (posed_place shape m group back x0 x1 c) (inverse_of (step shape m c)) =
    λ m.
    let p = pose_map shape m group back x0 x1 in
    let before = place_of shape m on in
    let own = step shape m c in
    sym (after-stay (after p before)) ∙ ap (after (after p before)) (sym (after-inverse own (numbered_step shape c (has m c))))
    ∙ sym (after_assoc (after p before) own (inverse_of own))
    ∙ ap (λ (f : Map). after f (inverse_of own)) (after_assoc p before own ∙ ap (after p) (sym (placed_on shape rules m c some inside))) in
    let child = place_alike shape rules group member back x0 x1 s t c bends walk agree in
    let steps = step_alike shape s t c own in
    back_to s ∙ (λ i. after (child i) (inverse_of (steps i))) ∙ sym (back_to t)

-- the box of a corner: its deciding bends are those on the way to the bend's child, and the bend
pub corner_alike : (shape : ShapeData) → IsShape shape → (group : Mask) → IsTrue (has group (lead_of shape group)) → (back : Back) (x0 x1 : ℤ) (s t : Mask) (c : ℕ) (bends : List ℕ)
    → 0 < c → c < length shape.part.faces → IsWalk shape.part.faces (joint_of shape.part.faces (lead_of shape group)).on bends c → Agree s t bends → has s c ≡ has t c
    → pose_box shape s group back x0 x1 (12 + c) ≡ pose_box shape t group back x0 x1 (12 + c)
corner_alike shape rules group member back x0 x1 s t c bends some inside walk agree own =
    let on = (joint_of shape.part.faces c).on in
    let posed : (m : Mask) → body_of shape m group back x0 x1 (12 + c) ≡ image (posed_place shape m group back x0 x1 on) (corner_column shape c) =
    λ m. box_posed shape rules m group member back x0 x1 (12 + c) on (corner_column shape c) (body_at_corner shape m c some) in
    let body = posed s ∙ ap (λ (m : Map). image m (corner_column shape c)) (parent_alike shape rules group member back x0 x1 s t c bends some inside walk agree own) ∙ sym (posed t) in
    λ i. record { id = 12 + c; half = half_of shape group back (12 + c); body = body i }
