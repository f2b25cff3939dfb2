-- Two sets of folded bends that agree on the bends that decide where a box lies have it at one place in the poses of a group.
use Rattle.std.proofs.Common.{◌≡◌, inl, inr, ℕ, ◌+◌, ◌-◌, ◌<◌, ◌≤◌, ◌==◌, nat_lt, ℤ, Bool, List, map, filter, length, IsTrue, refl, sym, ◌∙◌, ap, subst, arith}
use Rattle.std.specs.Prelude.{All, Any, if◌then◌else◌}
use Rattle.std.proofs.lemmas.Bool.{and_from, or_left, or_right, eq-eqb, lt-ltb}
use Rattle.std.proofs.lemmas.List.Elements.{All-append, All-map, All-weaker}
use Rattle.brake_base.specs.declared.mask.Mask.{Mask}
use Rattle.brake_base.specs.declared.stroke.Back.{Back}
use Rattle.brake_base.specs.Masks.{has}
use Rattle.part_file.specs.Part.{FaceData}
use Rattle.unfolder.specs.Cores.{joint_of}
use Rattle.unfolder.specs.Blank.{face_numbers, bend_numbers}
use Rattle.fold_boxes.specs.declared.posed_part.PoseBox.{PoseBox}
use Rattle.fold_boxes.specs.Shapes.{ShapeData, IsShape}
use Rattle.fold_boxes.specs.Pose.{lead_of, face_of_box, pose_box, posed_place, box_ids, pose_of, IsNumberOfBox}
use Rattle.fold_boxes.proofs.Leads.{lead_is}
use Rattle.fold_boxes.proofs.PartBounds.{parent_inside}
use Rattle.fold_boxes.proofs.Picked.{all_numbers, all_picked}
use Rattle.fold_boxes.proofs.PoseLists.{is_face, is_corner}
use Rattle.fold_boxes.proofs.Locality.{place_alike, face_alike, corner_alike}
use Rattle.job_setup.proofs.ReasonLocality.{HasBox}
use Rattle.box_support.specs.Deciding.{is_on_path, is_deciding, AgreeOnBox}
use Rattle.box_support.proofs.Paths.{path_walk}
use Rattle.box_support.proofs.Elements.{any_after, any_before, any_mapped, any_unmapped, any_number, any_picked}

pub ids_are : (shape : ShapeData) (mask : Mask) → All (IsNumberOfBox shape mask) (box_ids shape mask)
ids_are shape mask =
    All-append (IsNumberOfBox shape mask) (face_numbers shape.part.faces) (map (λ b. 12 + b) (filter (has mask) (bend_numbers shape.part.faces)))
    (all_numbers (IsNumberOfBox shape mask) 0 (length shape.part.faces) (λ k low high. inl (omega (arith, high))))
    (All-map (IsNumberOfBox shape mask) (λ b. 12 + b) (filter (has mask) (bend_numbers shape.part.faces))
    (all_picked (λ b. IsNumberOfBox shape mask (12 + b)) (has mask) 1 (length shape.part.faces - 1) (λ k low high folded. inr (k, omega (arith, low), omega (arith, low, high), folded, refl))))

pub id_found : (shape : ShapeData) (mask : Mask) (id : ℕ) (P : ℕ → Type 0) → IsNumberOfBox shape mask id → P id → Any P (box_ids shape mask)
id_found shape mask id P (inl inside) holds =
    any_after P (face_numbers shape.part.faces) (map (λ b. 12 + b) (filter (has mask) (bend_numbers shape.part.faces))) (any_number P 0 (length shape.part.faces) id (omega arith) (omega (arith, inside)) holds)
id_found shape mask id P (inr (c, some, inside, folded, same)) holds =
    any_before P (face_numbers shape.part.faces) (map (λ b. 12 + b) (filter (has mask) (bend_numbers shape.part.faces)))
    (any_mapped P (λ b. 12 + b) (filter (has mask) (bend_numbers shape.part.faces))
    (any_picked (λ b. P (12 + b)) (has mask) 1 (length shape.part.faces - 1) c (omega (arith, some)) (omega (arith, some, inside)) folded (subst P same holds)))

pub face_number : (f : ℕ) → f ≤ 12 → face_of_box f ≡ f
face_number f few = ap (λ (t : Bool). if t then f else f - 12) (is_face f few)

pub corner_number : (c : ℕ) → 0 < c → face_of_box (12 + c) ≡ c
corner_number c some = ap (λ (t : Bool). if t then 12 + c else (12 + c) - 12) (is_corner c some) ∙ omega arith

on_path_decides : (faces : List FaceData) (from id f bend : ℕ) → face_of_box id ≡ f → IsTrue (is_on_path faces from f bend) → IsTrue (is_deciding faces from id bend)
on_path_decides faces from id f bend face h = or_left (is_on_path faces from (face_of_box id) bend) _ (ap (λ n. is_on_path faces from n bend) face ∙ h)

own_decides : (faces : List FaceData) (from c : ℕ) → 0 < c → IsTrue (is_deciding faces from (12 + c) c)
own_decides faces from c some =
    or_right (is_on_path faces from (face_of_box (12 + c)) c) _
    (and_from (nat_lt 12 (12 + c)) (face_of_box (12 + c) == c) (lt-ltb 12 (12 + c) (omega (arith, some))) (eq-eqb (face_of_box (12 + c)) c (corner_number c some)))

-- a face lies at one place in the poses of a group, where the two sets agree on the bends that decide its core
pub face_place_alike : (shape : ShapeData) → IsShape shape → (group : Mask) → IsTrue (has group (lead_of shape group)) → (back : Back) (x0 x1 : ℤ) (s t : Mask) (f : ℕ) → f < length shape.part.faces
    → AgreeOnBox shape.part.faces (joint_of shape.part.faces (lead_of shape group)).on f s t → posed_place shape s group back x0 x1 f ≡ posed_place shape t group back x0 x1 f
face_place_alike shape rules group member back x0 x1 s t f inside agree =
    let on = (joint_of shape.part.faces (lead_of shape group)).on in
    let lead = lead_is shape group member in
    let earlier = (parent_inside shape rules (lead_of shape group) lead.some lead.inside).0 in
    let few = rules.part.few_faces in
    let way = path_walk shape.part rules.part on f (omega (arith, earlier, lead.inside)) inside in
    place_alike shape rules group member back x0 x1 s t f way.bends way.walk (All-weaker (λ bend. IsTrue (is_on_path shape.part.faces on f bend)) (λ b. has s b ≡ has t b) (λ bend h. agree bend (on_path_decides shape.part.faces on f f bend (face_number f (omega (arith, inside, few))) h)) way.bends way.on_path)

-- The box lies at the same place in the poses of a group, and is there in both.
pub record IsBoxAlike (shape : ShapeData) (group : Mask) (back : Back) (x0 x1 : ℤ) (s t : Mask) (id : ℕ) : Type 0 where
  pub there : IsNumberOfBox shape t id
  pub same : pose_box shape s group back x0 x1 id ≡ pose_box shape t group back x0 x1 id

pub box_alike : (shape : ShapeData) → IsShape shape → (group : Mask) → IsTrue (has group (lead_of shape group)) → (back : Back) (x0 x1 : ℤ) (s t : Mask) (id : ℕ) → IsNumberOfBox shape s id
    → AgreeOnBox shape.part.faces (joint_of shape.part.faces (lead_of shape group)).on id s t → IsBoxAlike shape group back x0 x1 s t id
box_alike shape rules group member back x0 x1 s t id is agree = by_kind is
  where
    from_inside : (joint_of shape.part.faces (lead_of shape group)).on < length shape.part.faces
    from_inside = let lead = lead_is shape group member in let earlier = (parent_inside shape rules (lead_of shape group) lead.some lead.inside).0 in omega (arith, earlier, lead.inside)

    by_kind : IsNumberOfBox shape s id → IsBoxAlike shape group back x0 x1 s t id
    by_kind (inl inside) =
        let on = (joint_of shape.part.faces (lead_of shape group)).on in
        let few = rules.part.few_faces in
        let way = path_walk shape.part rules.part on id from_inside inside in
        record {
          there = inl inside;
          same = face_alike shape rules group member back x0 x1 s t id way.bends inside way.walk (All-weaker (λ bend. IsTrue (is_on_path shape.part.faces on id bend)) (λ b. has s b ≡ has t b) (λ bend h. agree bend (on_path_decides shape.part.faces on id id bend (face_number id (omega (arith, inside, few))) h)) way.bends way.on_path);
        }
    by_kind (inr (c, some, inside, folded, same)) =
        let on = (joint_of shape.part.faces (lead_of shape group)).on in
        let here : AgreeOnBox shape.part.faces on (12 + c) s t = subst (λ n. AgreeOnBox shape.part.faces on n s t) same agree in
        let way = path_walk shape.part rules.part on c from_inside inside in
        let own = here c (own_decides shape.part.faces on c some) in
        record {
          there = inr (c, some, inside, sym own ∙ folded, same);
          same = subst (λ n. pose_box shape s group back x0 x1 n ≡ pose_box shape t group back x0 x1 n) (sym same)
              (corner_alike shape rules group member back x0 x1 s t c way.bends some inside way.walk (All-weaker (λ bend. IsTrue (is_on_path shape.part.faces on c bend)) (λ b. has s b ≡ has t b) (λ bend h. here bend (on_path_decides shape.part.faces on (12 + c) c bend (corner_number c some) h)) way.bends way.on_path) own);
        }

-- a box that the one pose has and that lies alike is one that the other has
pub has_alike : (shape : ShapeData) → IsShape shape → (group : Mask) → IsTrue (has group (lead_of shape group)) → (back : Back) (x0 x1 : ℤ) (s t : Mask) (box : PoseBox)
    → AgreeOnBox shape.part.faces (joint_of shape.part.faces (lead_of shape group)).on box.id s t → HasBox (pose_of shape s group back x0 x1) box → HasBox (pose_of shape t group back x0 x1) box
has_alike shape rules group member back x0 x1 s t box agree has_box =
    let found = any_unmapped (λ other. other ≡ box) (pose_box shape s group back x0 x1) 0 (box_ids shape s) has_box in
    let id = found.1 in
    let is : IsNumberOfBox shape s id = subst (IsNumberOfBox shape s) found.3 (ids_are shape s found.0 id found.2) in
    let number : box.id ≡ id = ap (λ (b : PoseBox). b.id) (sym found.4) in
    let alike = box_alike shape rules group member back x0 x1 s t id is (subst (λ n. AgreeOnBox shape.part.faces (joint_of shape.part.faces (lead_of shape group)).on n s t) number agree) in
    any_mapped (λ other. other ≡ box) (pose_box shape t group back x0 x1) (box_ids shape t) (id_found shape t id (λ n. pose_box shape t group back x0 x1 n ≡ box) alike.there (sym alike.same ∙ found.4))
