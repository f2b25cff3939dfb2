-- What the map of a pose does to the placed frame of the lead's parent.
use Rattle.std.proofs.Common.{◌≡◌, ℕ, zero, suc, ◌<◌, ◌≤◌, ℤ, pos, negsuc, ◌+ℤ◌, ◌-ℤ◌, ◌*ℤ◌, neg_ℤ, ◌≤ℤ◌, Bool, true, false, cond, length, IsTrue, refl, sym, ◌∙◌, ap, subst, arith}
use Rattle.std.proofs.lemmas.Int.{ints, clamps}
use Rattle.std.specs.Prelude.{if◌then◌else◌}
use Rattle.std.specs.Int.{int_min}
use Rattle.brake_base.specs.declared.space.V3.{V3}
use Rattle.brake_base.specs.declared.mask.Mask.{Mask}
use Rattle.brake_base.specs.declared.stroke.Back.{Back}
use Rattle.brake_base.specs.declared.stroke.Back.TheVariants.{Parent, Child}
use Rattle.brake_base.specs.Vectors.{vector, plus, times, origin}
use Rattle.brake_base.specs.Turns.{Matrix, Map, multiply, transpose, identity, apply, mapped, after}
use Rattle.brake_base.specs.Masks.{has}
use Rattle.brake_base.proofs.Vectors.{same_point}
use Rattle.brake_base.proofs.Maps.{apply-multiply, after-turn, mapped-after, after_assoc, after-stay}
use Rattle.part_file.specs.declared.part.Joint.{Joint}
use Rattle.part_file.specs.declared.part.Side.{Side}
use Rattle.part_file.specs.declared.part.Side.TheVariants.{N, E, S, W}
use Rattle.part_file.specs.declared.part.Dir.{Dir}
use Rattle.part_file.specs.declared.part.Dir.TheVariants.{Up, Down}
use Rattle.part_file.specs.Part.{FaceData, half_thickness, face_at, start, along, outward, is_bent}
use Rattle.unfolder.specs.Cores.{joint_of, z_axis, side_point, line_start, line_end, if_bent}
use Rattle.unfolder.specs.Blank.{flat_step}
use Rattle.unfolder.specs.Design.{fold_sign, design_step}
use Rattle.unfolder.specs.Fold.{dot, minus}
use Rattle.unfolder.proofs.ChainLemmas.{joint_of_part}
use Rattle.unfolder.proofs.PlaceLaws.{place-root, place-bend}
use Rattle.fold_boxes.specs.Shapes.{ShapeData, IsShape, mould_distance}
use Rattle.fold_boxes.specs.Folded.{place_of}
use Rattle.fold_boxes.specs.Groups.{is_mate, along_side, span}
use Rattle.fold_boxes.specs.Pose.{lead_of, IsGroup, y_axis, back_sign, start_of_span, span_start, parent_place, span_end, IsPoseMap, frame_turn, posed, posed_frame, inverse_of, pose_map}
use Rattle.fold_boxes.proofs.Folding.{cores_of_shape}
use Rattle.fold_boxes.proofs.Spans.{along_from_start}
use Rattle.fold_boxes.proofs.Numbered.{IsNumbered, numbered_is_turn, numbered_product, numbered_transpose, numbered_identity, numbered_side, numbered_folded, numbered_frame, transpose_first, mapped_is, inverse-after}
use Rattle.fold_boxes.proofs.Leads.{lead_is}
use Rattle.fold_boxes.proofs.SharedSides.{same_place}

-- ---- each place has a numbered turn
pub numbered_step : (shape : ShapeData) (b : ℕ) (t : Bool) → IsNumbered (cond t (design_step shape.part.faces (half_thickness shape.part) b) (flat_step shape.part.faces shape.q b)).turn
numbered_step shape b true = let joint = joint_of shape.part.faces b in numbered_folded joint.side joint.dir
numbered_step shape b false = let joint = joint_of shape.part.faces b in numbered_side joint.side

numbered_up_to : (shape : ShapeData) → IsShape shape → (mask : Mask) (n f : ℕ) → f ≤ n → f < length shape.part.faces → IsNumbered (place_of shape mask f).turn
numbered_up_to shape rules mask n zero few inside =
    subst (λ (m : Map). IsNumbered m.turn) (sym (place-root shape.part.faces shape.q (mould_distance shape) (has mask))) numbered_identity
numbered_up_to shape rules mask zero (suc b) few inside = absurd (omega arith)
numbered_up_to shape rules mask (suc n) (suc b) few inside =
    let on = (joint_of shape.part.faces (suc b)).on in
    let earlier : on < suc b = (joint_of_part shape.part rules.part).on (suc b) (omega arith) inside in
    let before = place_of shape mask on in
    let step = cond (has mask (suc b)) (design_step shape.part.faces (half_thickness shape.part) (suc b)) (flat_step shape.part.faces shape.q (suc b)) in
    let both = numbered_product before.turn step.turn (numbered_up_to shape rules mask n on (omega (arith, earlier)) (omega (arith, earlier))) (numbered_step shape (suc b) (has mask (suc b))) in
    subst (λ (m : Map). IsNumbered m.turn) (sym (place-bend shape.part rules.part shape.q (half_thickness shape.part) (cores_of_shape shape rules) (has mask) (suc b) (omega arith) inside))
    (subst IsNumbered (sym (after-turn before step)) both)

pub numbered_place : (shape : ShapeData) → IsShape shape → (mask : Mask) (f : ℕ) → f < length shape.part.faces → IsNumbered (place_of shape mask f).turn
numbered_place shape rules mask f inside = numbered_up_to shape rules mask f f (omega arith) inside

-- ---- where a pose has a point of the frame
abbrev posed_at : Side → Dir → Back → ℤ → ℤ → ℤ → V3 → V3 → V3 → V3
posed_at side dir back begin lower tau corner line p =
    vector
    (begin +ℤ ((back_sign back *ℤ fold_sign dir) *ℤ dot (minus p corner) (along side) -ℤ lower))
    (back_sign back *ℤ dot (minus p line) (outward side))
    (fold_sign dir *ℤ p.z -ℤ tau)

frame_point : (side : Side) (dir : Dir) (back : Back) (begin lower tau : ℤ) (corner line p : V3)
    → plus (apply (frame_turn side dir back) p) (posed_at side dir back begin lower tau corner line origin) ≡ posed_at side dir back begin lower tau corner line p
unfolding apply
frame_point N Up Child begin lower tau corner line p = same_point _ _ (omega (arith, ints)) (omega (arith, ints)) (omega (arith, ints))
frame_point N Up Parent begin lower tau corner line p = same_point _ _ (omega (arith, ints)) (omega (arith, ints)) (omega (arith, ints))
frame_point N Down Child begin lower tau corner line p = same_point _ _ (omega (arith, ints)) (omega (arith, ints)) (omega (arith, ints))
frame_point N Down Parent begin lower tau corner line p = same_point _ _ (omega (arith, ints)) (omega (arith, ints)) (omega (arith, ints))
frame_point E Up Child begin lower tau corner line p = same_point _ _ (omega (arith, ints)) (omega (arith, ints)) (omega (arith, ints))
frame_point E Up Parent begin lower tau corner line p = same_point _ _ (omega (arith, ints)) (omega (arith, ints)) (omega (arith, ints))
frame_point E Down Child begin lower tau corner line p = same_point _ _ (omega (arith, ints)) (omega (arith, ints)) (omega (arith, ints))
frame_point E Down Parent begin lower tau corner line p = same_point _ _ (omega (arith, ints)) (omega (arith, ints)) (omega (arith, ints))
frame_point S Up Child begin lower tau corner line p = same_point _ _ (omega (arith, ints)) (omega (arith, ints)) (omega (arith, ints))
frame_point S Up Parent begin lower tau corner line p = same_point _ _ (omega (arith, ints)) (omega (arith, ints)) (omega (arith, ints))
frame_point S Down Child begin lower tau corner line p = same_point _ _ (omega (arith, ints)) (omega (arith, ints)) (omega (arith, ints))
frame_point S Down Parent begin lower tau corner line p = same_point _ _ (omega (arith, ints)) (omega (arith, ints)) (omega (arith, ints))
frame_point W Up Child begin lower tau corner line p = same_point _ _ (omega (arith, ints)) (omega (arith, ints)) (omega (arith, ints))
frame_point W Up Parent begin lower tau corner line p = same_point _ _ (omega (arith, ints)) (omega (arith, ints)) (omega (arith, ints))
frame_point W Down Child begin lower tau corner line p = same_point _ _ (omega (arith, ints)) (omega (arith, ints)) (omega (arith, ints))
frame_point W Down Parent begin lower tau corner line p = same_point _ _ (omega (arith, ints)) (omega (arith, ints)) (omega (arith, ints))

pub mapped_posed : (shape : ShapeData) (group : Mask) (back : Back) (x0 x1 : ℤ) (v : V3) → mapped (posed_frame shape group back x0 x1) v ≡ posed shape group back x0 x1 v
mapped_posed shape group back x0 x1 v =
    let b = lead_of shape group in
    let joint = joint_of shape.part.faces b in
    let k = back_sign back *ℤ fold_sign joint.dir in
    let lines = span shape (has group) in
    mapped_is (posed_frame shape group back x0 x1) v
    ∙ frame_point joint.side joint.dir back (span_start shape group x0 x1) (int_min (k *ℤ lines.0) (k *ℤ lines.1)) (half_thickness shape.part) (start joint.side (face_at shape.part.faces joint.on)) (line_start shape.part.faces shape.q b) v

-- ---- a frame, and then the way back from the place
pub back_to_frame : (frame place : Map) → multiply (transpose place.turn) place.turn ≡ identity → after (after frame (inverse_of place)) place ≡ frame
back_to_frame frame place h = after_assoc frame (inverse_of place) place ∙ ap (after frame) (inverse-after place h) ∙ after-stay frame

rest : (a s c : V3) → plus a s ≡ c → s ≡ minus c a
rest a s c e = subst (λ (v : V3). s ≡ minus v a) e (same_point _ _ (omega (arith, ints)) (omega (arith, ints)) (omega (arith, ints)))

-- the shift of a pose's map, by what becomes of one point
pub shift_is : (frame place : Map) → multiply (transpose place.turn) place.turn ≡ identity → (w : V3)
    → (after frame (inverse_of place)).shift ≡ minus (mapped frame w) (apply (multiply frame.turn (transpose place.turn)) (mapped place w))
shift_is frame place h w =
    let m = after frame (inverse_of place) in
    let there : mapped m (mapped place w) ≡ mapped frame w = sym (mapped-after m place w) ∙ ap (λ (f : Map). mapped f w) (back_to_frame frame place h) in
    let split : plus (apply m.turn (mapped place w)) m.shift ≡ mapped frame w = sym (mapped_is m (mapped place w)) ∙ there in
    rest (apply m.turn (mapped place w)) m.shift (mapped frame w) split ∙ ap (λ (t : Matrix). minus (mapped frame w) (apply t (mapped place w))) (after-turn frame (inverse_of place))

-- ---- the effect
points_up : (side : Side) (dir : Dir) (back : Back) → apply (frame_turn side dir back) (times (fold_sign dir) z_axis) ≡ z_axis
unfolding apply
points_up N Up Child = refl
points_up N Up Parent = refl
points_up N Down Child = refl
points_up N Down Parent = refl
points_up E Up Child = refl
points_up E Up Parent = refl
points_up E Down Child = refl
points_up E Down Parent = refl
points_up S Up Child = refl
points_up S Up Parent = refl
points_up S Down Child = refl
points_up S Down Parent = refl
points_up W Up Child = refl
points_up W Up Parent = refl
points_up W Down Child = refl
points_up W Down Parent = refl

points_back : (side : Side) (dir : Dir) (back : Back) → apply (frame_turn side dir back) (outward side) ≡ times (back_sign back) y_axis
unfolding apply
points_back N Up Child = refl
points_back N Up Parent = refl
points_back N Down Child = refl
points_back N Down Parent = refl
points_back E Up Child = refl
points_back E Up Parent = refl
points_back E Down Child = refl
points_back E Down Parent = refl
points_back S Up Child = refl
points_back S Up Parent = refl
points_back S Down Child = refl
points_back S Down Parent = refl
points_back W Up Child = refl
points_back W Up Parent = refl
points_back W Down Child = refl
points_back W Down Parent = refl

-- how far inside the side one point lies from another
pub depths : (side : Side) (face : FaceData) (a c d e : ℤ) → dot (minus (side_point side face a d) (side_point side face c e)) (outward side) ≡ e -ℤ d
depths N face a c d e = omega (arith, ints)
depths E face a c d e = omega (arith, ints)
depths S face a c d e = omega (arith, ints)
depths W face a c d e = omega (arith, ints)

on_line : (side : Side) (face : FaceData) (back : Back) (a c q : ℤ) → back_sign back *ℤ dot (minus (side_point side face a q) (side_point side face c q)) (outward side) ≡ pos 0
on_line side face back a c q = ap (λ d. back_sign back *ℤ d) (depths side face a c q q) ∙ by_side back
  where
    by_side : (back : Back) → back_sign back *ℤ (q -ℤ q) ≡ pos 0
    by_side Child = omega (arith, ints)
    by_side Parent = omega (arith, ints)

pub at_level : (dir : Dir) (z tau : ℤ) → z ≡ pos 0 → fold_sign dir *ℤ z -ℤ tau ≡ neg_ℤ tau
at_level Up z tau e = omega (arith, ints, e)
at_level Down z tau e = omega (arith, ints, e)

lower_end : (begin a b : ℤ) → int_min (begin +ℤ (a -ℤ int_min a b)) (begin +ℤ (b -ℤ int_min a b)) ≡ begin
lower_end begin a b = omega (arith, ints, clamps)

-- the map of a pose has its effect
pub pose_effect : (shape : ShapeData) → IsShape shape → (mask group : Mask) → IsGroup shape mask group → (back : Back) (x0 x1 : ℤ) → IsPoseMap shape mask group back x0 x1 (pose_map shape mask group back x0 x1)
unfolding pose_map
pose_effect shape rules mask group is_group back x0 x1 =
    let faces = shape.part.faces in
    let b = lead_of shape group in
    let lead = lead_is shape group is_group.some in
    let joint = joint_of faces b in
    let face = face_at faces joint.on in
    let earlier : joint.on < b = (joint_of_part shape.part rules.part).on b lead.some lead.inside in
    let place = parent_place shape mask b in
    let numbered = numbered_place shape rules mask joint.on (omega (arith, earlier, lead.inside)) in
    let frame = posed_frame shape group back x0 x1 in
    let m = after frame (inverse_of place) in
    let again = back_to_frame frame place (transpose_first place.turn numbered) in
    let turned : (v : V3) → apply m.turn (apply place.turn v) ≡ apply frame.turn v =
    λ v. sym (apply-multiply m.turn place.turn v) ∙ ap (λ (t : Matrix). apply t v) (sym (after-turn m place) ∙ ap (λ (f : Map). f.turn) again) in
    let there : (v : V3) → mapped m (mapped place v) ≡ posed shape group back x0 x1 v =
    λ v. sym (mapped-after m place v) ∙ ap (λ (f : Map). mapped f v) again ∙ mapped_posed shape group back x0 x1 v in
    let k = back_sign back *ℤ fold_sign joint.dir in
    let lines = span shape (has group) in
    let begin = span_start shape group x0 x1 in
    let along_bed : (d : ℤ) → (mapped m (mapped place (span_end shape group d))).x ≡ begin +ℤ (k *ℤ d -ℤ int_min (k *ℤ lines.0) (k *ℤ lines.1)) =
    λ d. ap (λ (v : V3). v.x) (there (span_end shape group d)) ∙ ap (λ e. begin +ℤ (k *ℤ e -ℤ int_min (k *ℤ lines.0) (k *ℤ lines.1))) (along_from_start joint.side face d shape.q) in
    record {
      turn = numbered_is_turn m.turn (subst IsNumbered (sym (after-turn frame (inverse_of place))) (numbered_product frame.turn (transpose place.turn) (numbered_frame joint.side joint.dir back) (numbered_transpose place.turn numbered)));
      upwards = turned (times (fold_sign joint.dir) z_axis) ∙ points_up joint.side joint.dir back;
      backwards = turned (outward joint.side) ∙ points_back joint.side joint.dir back;
      line_starts = λ c member. ap (λ (v : V3). v.y) (there (line_start faces shape.q c)) ∙ start_on_line c (is_group.mates c member);
      line_ends = λ c member. ap (λ (v : V3). v.y) (there (line_end faces shape.q c)) ∙ end_on_line c (is_group.mates c member);
      level = λ v flat. ap (λ (p : V3). p.z) (there v) ∙ at_level joint.dir v.z (half_thickness shape.part) flat;
      left = (λ i. int_min (along_bed lines.0 i) (along_bed lines.1 i)) ∙ lower_end begin (k *ℤ lines.0) (k *ℤ lines.1);
    }
  where
    start_on_line : (c : ℕ) → IsTrue (is_mate shape (lead_of shape group) c) → (posed shape group back x0 x1 (line_start shape.part.faces shape.q c)).y ≡ pos 0
    start_on_line c mate =
        let b = lead_of shape group in
        let joint = joint_of shape.part.faces b in
        let same = same_place shape b c mate in
        let a = (joint_of shape.part.faces c).at +ℤ if_bent (is_bent shape.part.faces c W) shape.q in
        let own = joint.at +ℤ if_bent (is_bent shape.part.faces b W) shape.q in
        (λ i. back_sign back *ℤ dot (minus (side_point (same.0 i) (face_at shape.part.faces (same.1 i)) a shape.q) (line_start shape.part.faces shape.q b)) (outward joint.side))
        ∙ on_line joint.side (face_at shape.part.faces joint.on) back a own shape.q

    end_on_line : (c : ℕ) → IsTrue (is_mate shape (lead_of shape group) c) → (posed shape group back x0 x1 (line_end shape.part.faces shape.q c)).y ≡ pos 0
    end_on_line c mate =
        let b = lead_of shape group in
        let joint = joint_of shape.part.faces b in
        let same = same_place shape b c mate in
        let a = ((joint_of shape.part.faces c).at +ℤ (face_at shape.part.faces c).width) -ℤ if_bent (is_bent shape.part.faces c E) shape.q in
        let own = joint.at +ℤ if_bent (is_bent shape.part.faces b W) shape.q in
        (λ i. back_sign back *ℤ dot (minus (side_point (same.0 i) (face_at shape.part.faces (same.1 i)) a shape.q) (line_start shape.part.faces shape.q b)) (outward joint.side))
        ∙ on_line joint.side (face_at shape.part.faces joint.on) back a own shape.q

-- ---- the corner at which the lead's child lies flat
level : (side : Side) (face : FaceData) (distance depth : ℤ) → (side_point side face distance depth).z ≡ pos 0
level N face distance depth = omega (arith, ints)
level E face distance depth = omega (arith, ints)
level S face distance depth = omega (arith, ints)
level W face distance depth = omega (arith, ints)

sided : (right : Bool) (k at from to : ℤ) → k ≡ (if right then pos 1 else negsuc 0) → from ≤ℤ to → (if right then at -ℤ from else to -ℤ at) ≡ k *ℤ at -ℤ int_min (k *ℤ from) (k *ℤ to)
sided true k at from to e h = rw e (omega (arith, ints, clamps, h))
sided false k at from to e h = rw e (omega (arith, ints, clamps, h))

half_depth : (q : ℤ) → neg_ℤ q ≡ q -ℤ pos 2 *ℤ q
half_depth q = omega (arith, ints)

-- where a pose has it
pub corner_is : (shape : ShapeData) (group : Mask) (back : Back) (x0 x1 : ℤ) (b : ℕ) (joint : Joint) (lines : ℤ × ℤ) (right : Bool) (x y z : ℤ)
    → b ≡ lead_of shape group → joint ≡ joint_of shape.part.faces b → lines ≡ span shape (has group) → lines.0 ≤ℤ lines.1
    → back_sign back *ℤ fold_sign joint.dir ≡ (if right then pos 1 else negsuc 0)
    → x ≡ start_of_span lines x0 x1 +ℤ (if right then joint.at -ℤ lines.0 else lines.1 -ℤ joint.at)
    → y ≡ back_sign back *ℤ neg_ℤ shape.q → z ≡ neg_ℤ (half_thickness shape.part)
    → vector x y z ≡ posed shape group back x0 x1 (flat_step shape.part.faces shape.q b).shift
corner_is shape group back x0 x1 b joint lines right x y z b_is joint_at lines_are order sign x_is y_is z_is =
    let faces = shape.part.faces in
    let ours = joint_of faces (lead_of shape group) in
    let face = face_at faces ours.on in
    let joint_is : joint ≡ ours = joint_at ∙ ap (joint_of faces) b_is in
    let k = back_sign back *ℤ fold_sign ours.dir in
    let corner = (flat_step faces shape.q (lead_of shape group)).shift in
    let own = ours.at +ℤ if_bent (is_bent faces (lead_of shape group) W) shape.q in
    let k_is : k ≡ (if right then pos 1 else negsuc 0) = ap (λ (j : Joint). back_sign back *ℤ fold_sign j.dir) (sym joint_is) ∙ sign in
    let along_line : (if right then joint.at -ℤ lines.0 else lines.1 -ℤ joint.at) ≡ k *ℤ along_side shape (lead_of shape group) corner -ℤ int_min (k *ℤ lines.0) (k *ℤ lines.1) =
    sided right k joint.at lines.0 lines.1 k_is order
    ∙ ap (λ e. k *ℤ e -ℤ int_min (k *ℤ lines.0) (k *ℤ lines.1)) (ap (λ (j : Joint). j.at) joint_is ∙ sym (along_from_start ours.side face ours.at (pos 2 *ℤ shape.q))) in
    let x_there = x_is ∙ ap (λ e. start_of_span lines x0 x1 +ℤ e) along_line
    ∙ (λ i. start_of_span (lines_are i) x0 x1 +ℤ (k *ℤ along_side shape (lead_of shape group) corner -ℤ int_min (k *ℤ (lines_are i).0) (k *ℤ (lines_are i).1))) in
    let y_there = y_is ∙ ap (λ e. back_sign back *ℤ e) (half_depth shape.q ∙ sym (depths ours.side face ours.at own (pos 2 *ℤ shape.q) shape.q)) in
    let z_there = z_is ∙ sym (at_level ours.dir corner.z (half_thickness shape.part) (level ours.side face ours.at (pos 2 *ℤ shape.q))) in
    (λ i. vector (x_there i) (y_there i) (z_there i)) ∙ ap (λ c. posed shape group back x0 x1 (flat_step faces shape.q c).shift) (sym b_is)

-- the map that is made of the frame and the parent's place
pub pose_map_is : (shape : ShapeData) (mask group : Mask) (back : Back) (x0 x1 : ℤ) (m parent : Map) → m ≡ after (posed_frame shape group back x0 x1) (inverse_of parent) → parent ≡ parent_place shape mask (lead_of shape group)
    → m ≡ pose_map shape mask group back x0 x1
unfolding pose_map
pose_map_is shape mask group back x0 x1 m parent is parent_at = is ∙ ap (λ (p : Map). after (posed_frame shape group back x0 x1) (inverse_of p)) parent_at
