-- The tree of faces: what a joint leads to, and what lies beyond a bend.
use Rattle.std.proofs.Common.{◌≡◌, ◌↔◌, ℕ, ◌<◌, ◌≤◌, Bool, ◌||◌, List, [], ◌∷◌, length, map, get_or, Option, Some, None, refl, sym, ap, subst, ◌∙◌, ◌==◌, IsTrue, eqb-true, eq-eqb, inl, inr, arith}
use Rattle.std.specs.List.{list_any}
use Rattle.std.proofs.lemmas.Bool.{cases_lt}
use Rattle.std.proofs.lemmas.List.{get_or-map, length-map}
use Rattle.part_file.specs.declared.part.Joint.{Joint}
use Rattle.part_file.specs.declared.part.Face.{Face}
use Rattle.part_file.specs.Part.{FaceData, PartData, face_data, no_face, joint_at, IsJointOf, IsJoined, IsPart, IsBeyond, child, further}

-- the joint of a face is the one that its data have
pub joint_in : (faces : List Face) (f : ℕ) (d : Face) → f < length faces → joint_at (map face_data faces) f ≡ (get_or faces f d).joint
joint_in faces f d within = ap (λ (face : FaceData). face.joint) (get_or-map face_data faces f d no_face within)

-- the same, as the code reads it
pub joint_is : (faces fs : List Face) (f n : ℕ) (d : Face) (joint : Option Joint) → fs ≡ faces → n ≡ f → f < length faces → (get_or fs n d).joint ≡ joint → joint_at (map face_data faces) f ≡ joint
joint_is faces fs f n d joint same here within is =
    let there : (get_or faces f d).joint ≡ joint = rw (← same, ← here) is in
    joint_in faces f d within ∙ there

pub list_any_map : {A B : Type 0} (test : B → Bool) (f : A → B) (xs : List A) → list_any test (map f xs) ≡ list_any (λ x. test (f x)) xs
list_any_map test f [] = refl
list_any_map test f (x ∷ xs) = ap (λ (b : Bool). test (f x) || b) (list_any_map test f xs)

pub ruleset faces = (list_any_map, length-map)

pub no_clash : {A : Type 0} (o : Option A) (x : A) → o ≡ None → o ≡ Some x → ⊥
no_clash o x none some = cc

same_some : {A : Type 0} (o : Option A) (x y : A) → o ≡ Some x → o ≡ Some y → x ≡ y
same_some o x y first second = cc

-- the joint of a face that is joined as it has to be meets the rules
pub joint_of_joined : (faces : List FaceData) (b : ℕ) (joint : Joint) → joint_at faces b ≡ Some joint → IsJoined faces b → IsJointOf faces b joint
joint_of_joined faces b joint has joined =
    elim (cases_lt 0 b) [
      | inl low ↦
          let found = joined.joint low in
          subst (λ (j : Joint). IsJointOf faces b j) (same_some (joint_at faces b) found.0 joint found.1.has has) found.1
      | inr none ↦ absurd (no_clash (joint_at faces b) joint (joined.root (omega arith)) has)
    ]

-- the joint of a face is on an earlier one
pub is_earlier : (p : PartData) → IsPart p → (f : ℕ) → f < length p.faces → (joint : Joint) → joint_at p.faces f ≡ Some joint → joint.on < f
is_earlier p fit f within joint has = (joint_of_joined p.faces f joint has (fit.each_face f within).placed.joined).earlier

-- each face but face 0 has a joint
pub is_joined : (p : PartData) → IsPart p → (f : ℕ) → 0 < f → f < length p.faces → joint_at p.faces f ≡ None → ⊥
is_joined p fit f low within none =
    let found = (fit.each_face f within).placed.joined.joint low in
    no_clash (joint_at p.faces f) found.0 none found.1.has

-- a face lies beyond an earlier bend exactly where its parent does
pub beyond_parent : (faces : List FaceData) (b f : ℕ) (joint : Joint) → joint_at faces f ≡ Some joint → b < f → IsBeyond faces b f → IsBeyond faces b joint.on
beyond_parent faces b f joint has below (child g same) = absurd (omega arith)
beyond_parent faces b f joint has below (further g other is beyond) =
    let same : other ≡ joint = cc in
    subst (λ (j : Joint). IsBeyond faces b j.on) same beyond

-- a face before a bend doesn't lie beyond it
pub not_beyond : (p : PartData) → IsPart p → (b f : ℕ) → f < b → f < length p.faces → IsBeyond p.faces b f → ⊥
not_beyond p fit b f before within (child g same) = omega arith
not_beyond p fit b f before within (further g joint is beyond) =
    let earlier : joint.on < f = is_earlier p fit f within joint is in
    not_beyond p fit b joint.on (omega arith) (omega arith) beyond

-- a step from a face to its parent keeps what lies beyond an earlier bend
pub same_beyond : (faces : List FaceData) (b f first parent : ℕ) (joint : Joint) → joint_at faces f ≡ Some joint → joint.on ≡ parent → b < f
    → (IsBeyond faces b f ↔ IsBeyond faces b first) → (IsBeyond faces b parent ↔ IsBeyond faces b first)
same_beyond faces b f first parent joint has is below same = (
  λ beyond. same.0 (further f joint has (subst (λ (g : ℕ). IsBeyond faces b g) (sym is) beyond)),
  λ beyond. subst (λ (g : ℕ). IsBeyond faces b g) is (beyond_parent faces b f joint has below (same.1 beyond)),
)

-- at a face that isn't after the bend
pub beyond_is : (p : PartData) → IsPart p → (b f first : ℕ) → f < length p.faces → f ≤ b → (IsBeyond p.faces b f ↔ IsBeyond p.faces b first) → (IsTrue (f == b) ↔ IsBeyond p.faces b first)
beyond_is p fit b f first within low same =
    (λ yes. same.0 (child f (eqb-true f b yes)), λ beyond. here (same.1 beyond))
  where
    here : IsBeyond p.faces b f → IsTrue (f == b)
    here beyond = elim (cases_lt f b) [ inl before ↦ absurd (not_beyond p fit b f before within beyond) | inr past ↦ eq-eqb f b (omega arith) ]
