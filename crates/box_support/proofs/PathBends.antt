-- The bends of the path between two faces are exactly those beyond which one of the two lies and the other doesn't.
use Rattle.std.proofs.Common.{◌≡◌, ◌↔◌, ◌⊎◌, inl, inr, ℕ, zero, suc, ◌<◌, ◌≤◌, Bool, true, false, not, ◌&&◌, ◌||◌, List, ◌∷◌, length, IsTrue, Some, None, refl, sym, ◌∙◌, ap, subst, arith}
use Rattle.std.specs.Prelude.{Contains, AllPairs, slice_index_or, unwrap_or}
use Rattle.std.proofs.lemmas.Bool.{cases_lt}
use Rattle.std.proofs.lemmas.Bool.Decides.{eqb_tells}
use Rattle.std.proofs.lemmas.List.{get_or_past}
use Rattle.part_file.specs.declared.part.Joint.{Joint}
use Rattle.part_file.specs.Part.{FaceData, PartData, IsPart, IsWalk, IsPath, stay, inward, onward, joint_at, no_face}
use Rattle.part_file.proofs.Joints.{is_earlier}
use Rattle.unfolder.specs.Cores.{joint_of, no_joint}
use Rattle.box_support.specs.Deciding.{is_on_path}
use Rattle.box_support.proofs.Paths.{beyond, not_beyond, beyond_own, beyond_parent, one_beyond}

in_first : (b : ℕ) (bends : List ℕ) → Contains (b ∷ bends) b
in_first b bends = (0, omega arith, refl)

in_later : (b c : ℕ) (bends : List ℕ) → Contains bends c → Contains (b ∷ bends) c
in_later b c bends at = (suc at.0, omega (arith, at.1), at.2)

in_parts : (b c : ℕ) (bends : List ℕ) → Contains (b ∷ bends) c → (b ≡ c) ⊎ Contains bends c
in_parts b c bends at = by_place at.0 at.1 at.2
  where
    by_place : (k : ℕ) → k < length (b ∷ bends) → slice_index_or (b ∷ bends) k c ≡ c → (b ≡ c) ⊎ Contains bends c
    by_place zero low same = inl same
    by_place (suc k) low same = inr (k, omega arith, same)

-- what no pair of is the same, the first isn't again
not_again : (b : ℕ) (bends : List ℕ) → AllPairs (λ x y. x ≡ y → ⊥) (b ∷ bends) → Contains bends b → ⊥
not_again b bends once at = once 0 (suc at.0) b (omega arith) (omega (arith, at.1)) (sym at.2)

once_later : (b : ℕ) (bends : List ℕ) → AllPairs (λ x y. x ≡ y → ⊥) (b ∷ bends) → AllPairs (λ x y. x ≡ y → ⊥) bends
once_later b bends once = λ i j d low inside. once (suc i) (suc j) d (omega arith) (omega arith)

module _ (p : PartData) (part : IsPart p) where
  record HasParent (f : ℕ) (joint : Joint) : Type 0 where
    inside : f < length p.faces
    earlier : joint.on < f
    is : joint_of p.faces f ≡ joint

  has_parent : (f : ℕ) (joint : Joint) → joint_at p.faces f ≡ Some joint → HasParent f joint
  has_parent f joint has_joint =
      let inside = within (cases_lt f (length p.faces)) in
      record { inside = inside; earlier = is_earlier p part f inside joint has_joint; is = ap (λ o. unwrap_or o no_joint) has_joint }
    where
      within : (f < length p.faces) ⊎ (length p.faces ≤ f) → f < length p.faces
      within (inl low) = low
      within (inr past) =
          let none : joint_at p.faces f ≡ None = ap (λ (face : FaceData). face.joint) (get_or_past p.faces f no_face past) in
          absurd cc

  -- a face and its parent lie beyond the same other bends, and not both beyond the face's own
  same_other : (f c : ℕ) (joint : Joint) → HasParent f joint → (f ≡ c → ⊥) → beyond p.faces c f ≡ beyond p.faces c joint.on
  same_other f c joint parent other = elim (eqb_tells f c) [
    | inl same ↦ absurd (other same.1)
    | inr differ ↦ beyond_parent p part c f (omega (arith, parent.earlier)) parent.inside differ.0 ∙ ap (λ (j : Joint). beyond p.faces c j.on) parent.is
  ]

  own_differs : (f : ℕ) (joint : Joint) → HasParent f joint → (beyond p.faces f f ≡ true) × (beyond p.faces f joint.on ≡ false)
  own_differs f joint parent = (beyond_own p part f (omega (arith, parent.earlier)) parent.inside, not_beyond p part f joint.on parent.earlier (omega (arith, parent.earlier, parent.inside)))

  -- a walk that doesn't cross a bend stays on its side
  stays : (f g : ℕ) (bends : List ℕ) → IsWalk p.faces f bends g → (c : ℕ) → (Contains bends c → ⊥) → beyond p.faces c f ≡ beyond p.faces c g
  stays f g bends (stay _ _ same) c none = ap (beyond p.faces c) same
  stays f g bends (inward _ _ joint rest has walk) c none =
      let parent = has_parent f joint has in
      same_other f c joint parent (λ same. none (subst (λ (b : ℕ). Contains (f ∷ rest) b) same (in_first f rest))) ∙ stays joint.on g rest walk c (λ at. none (in_later f c rest at))
  stays a z bends (onward f g joint rest has walk) c none =
      let parent = has_parent f joint has in
      sym (same_other f c joint parent (λ same. none (subst (λ (b : ℕ). Contains (f ∷ rest) b) same (in_first f rest)))) ∙ stays f g rest walk c (λ at. none (in_later f c rest at))

  unequal : (a b : Bool) → IsTrue ((a && not b) || (b && not a)) → a ≡ b → ⊥
  unequal true true h same = absurd cc
  unequal true false h same = absurd cc
  unequal false true h same = absurd cc
  unequal false false h same = absurd cc

  moved_test : (a b c d : Bool) → a ≡ c → b ≡ d → IsTrue ((c && not d) || (d && not c)) → IsTrue ((a && not b) || (b && not a))
  moved_test a b c d first second h = rw (first, second) h

  one_back : (a b : Bool) → a ≡ false → b ≡ true → IsTrue ((a && not b) || (b && not a))
  one_back a b first second = rw (first, second) refl

  -- each bend on the path is crossed by each walk
  crossed : (f g : ℕ) (bends : List ℕ) → IsWalk p.faces f bends g → (c : ℕ) → IsTrue (is_on_path p.faces f g c) → Contains bends c
  crossed f g bends (stay _ _ same) c on = absurd (unequal (beyond p.faces c f) (beyond p.faces c g) on (ap (beyond p.faces c) same))
  crossed f g bends (inward _ _ joint rest has walk) c on = elim (eqb_tells f c) [
    | inl same ↦ subst (λ (b : ℕ). Contains (f ∷ rest) b) same.1 (in_first f rest)
    | inr other ↦ in_later f c rest (crossed joint.on g rest walk c
        (moved_test (beyond p.faces c joint.on) (beyond p.faces c g) (beyond p.faces c f) (beyond p.faces c g) (sym (same_other f c joint (has_parent f joint has) other.1)) refl on))
  ]
  crossed a z bends (onward f g joint rest has walk) c on = elim (eqb_tells f c) [
    | inl same ↦ subst (λ (b : ℕ). Contains (f ∷ rest) b) same.1 (in_first f rest)
    | inr other ↦ in_later f c rest (crossed f g rest walk c
        (moved_test (beyond p.faces c f) (beyond p.faces c g) (beyond p.faces c joint.on) (beyond p.faces c g) (same_other f c joint (has_parent f joint has) other.1) refl on))
  ]

  -- each bend of a walk that takes none twice is on the path
  taken : (f g : ℕ) (bends : List ℕ) → IsWalk p.faces f bends g → AllPairs (λ x y. x ≡ y → ⊥) bends → (c : ℕ) → Contains bends c → IsTrue (is_on_path p.faces f g c)
  taken f g bends (stay _ _ same) once c at = let low : at.0 < 0 = at.1 in absurd (omega arith)
  taken f g bends (inward _ _ joint rest has walk) once c at =
      let parent = has_parent f joint has in
      let own = own_differs f joint parent in
      elim (in_parts f c rest at) [
        | inl same ↦ subst (λ (b : ℕ). IsTrue (is_on_path p.faces f g b)) same
            (one_beyond (beyond p.faces f f) (beyond p.faces f g) own.0 (sym (stays joint.on g rest walk f (not_again f rest once)) ∙ own.1))
        | inr later ↦ moved_test (beyond p.faces c f) (beyond p.faces c g) (beyond p.faces c joint.on) (beyond p.faces c g)
            (same_other f c joint parent (λ same. not_again f rest once (subst (Contains rest) (sym same) later))) refl
            (taken joint.on g rest walk (once_later f rest once) c later)
      ]
  taken a z bends (onward f g joint rest has walk) once c at =
      let parent = has_parent f joint has in
      let own = own_differs f joint parent in
      elim (in_parts f c rest at) [
        | inl same ↦ subst (λ (b : ℕ). IsTrue (is_on_path p.faces joint.on g b)) same
            (one_back (beyond p.faces f joint.on) (beyond p.faces f g) own.1 (sym (stays f g rest walk f (not_again f rest once)) ∙ own.0))
        | inr later ↦ moved_test (beyond p.faces c joint.on) (beyond p.faces c g) (beyond p.faces c f) (beyond p.faces c g)
            (sym (same_other f c joint parent (λ same. not_again f rest once (subst (Contains rest) (sym same) later)))) refl
            (taken f g rest walk (once_later f rest once) c later)
      ]

  -- the bends of the path are exactly those on it
  pub path_exact : (f g : ℕ) (bends : List ℕ) → IsPath p.faces f bends g → (c : ℕ) → IsTrue (is_on_path p.faces f g c) ↔ Contains bends c
  path_exact f g bends path c = (crossed f g bends path.walk c, taken f g bends path.walk path.once c)
