-- The path between two faces, as a walk.
use Rattle.std.proofs.Common.{◌≡◌, ◌↔◌, ◌⊎◌, inl, inr, ℕ, zero, suc, ◌+◌, ◌<◌, ◌≤◌, ◌==◌, Bool, true, false, not, ◌&&◌, ◌||◌, List, [], ◌∷◌, ◌++◌, length, IsTrue, refl, sym, ◌∙◌, ap, subst, arith}
use Rattle.std.proofs.Math.Bool.{beq}
use Rattle.std.specs.Prelude.{All}
use Rattle.std.proofs.lemmas.Bool.{cases_lt, eqb-true, eq-eqb, ne_eqb}
use Rattle.std.proofs.lemmas.List.Elements.{All-nil, All-cons, All-push, All-weaker}
use Rattle.part_file.specs.Part.{FaceData, PartData, IsPart, IsBeyond, IsWalk, stay, inward, onward}
use Rattle.part_file.proofs.Walks.{walk_on}
use Rattle.unfolder.specs.Cores.{joint_of}
use Rattle.unfolder.proofs.ChainLemmas.{joint_of_part}
use Rattle.fold_boxes.specs.Pose.{is_beyond_some}
use Rattle.fold_boxes.proofs.Beyond.{beyond-root, beyond-bend, beyond_is}
use Rattle.fold_boxes.proofs.PartBounds.{rules_of_joint}
use Rattle.box_support.specs.Deciding.{is_on_path}

-- the face lies beyond the bend
abbrev pub beyond : List FaceData → ℕ → ℕ → Bool
beyond faces bend = is_beyond_some faces (λ c. c == bend)

-- a face lies beyond no bend of a greater number
not_beyond_up_to : (p : PartData) → IsPart p → (bend n f : ℕ) → f ≤ n → f < bend → f < length p.faces → beyond p.faces bend f ≡ false
not_beyond_up_to p part bend n zero few low inside = beyond-root p.faces (λ c. c == bend)
not_beyond_up_to p part bend zero (suc f) few low inside = absurd (omega arith)
not_beyond_up_to p part bend (suc n) (suc f) few low inside =
    let on : (joint_of p.faces (suc f)).on < suc f = (joint_of_part p part).on (suc f) (omega arith) inside in
    let inner = not_beyond_up_to p part bend n (joint_of p.faces (suc f)).on (omega (arith, on)) (omega (arith, on, low)) (omega (arith, on, inside)) in
    beyond-bend p.faces (λ c. c == bend) (joint_of_part p part) (suc f) (omega arith) inside
    ∙ (λ i. ne_eqb (suc f) bend (λ e. omega (arith, low, e)) i || inner i)

pub not_beyond : (p : PartData) → IsPart p → (bend f : ℕ) → f < bend → f < length p.faces → beyond p.faces bend f ≡ false
not_beyond p part bend f low inside = not_beyond_up_to p part bend f f (omega arith) low inside

-- each bend's child lies beyond it
pub beyond_own : (p : PartData) → IsPart p → (bend : ℕ) → 0 < bend → bend < length p.faces → beyond p.faces bend bend ≡ true
beyond_own p part bend some inside =
    beyond-bend p.faces (λ c. c == bend) (joint_of_part p part) bend some inside
    ∙ ap (λ t. t || beyond p.faces bend (joint_of p.faces bend).on) (eq-eqb bend bend refl)

-- a face and its parent lie beyond the same other bends
pub beyond_parent : (p : PartData) → IsPart p → (bend f : ℕ) → 0 < f → f < length p.faces → (f == bend) ≡ false → beyond p.faces bend f ≡ beyond p.faces bend (joint_of p.faces f).on
beyond_parent p part bend f some inside other =
    beyond-bend p.faces (λ c. c == bend) (joint_of_part p part) f some inside
    ∙ ap (λ t. t || beyond p.faces bend (joint_of p.faces f).on) other

-- what tells whether a face lies beyond a bend
same_truth : (x y : Bool) → (x ≡ true → y ≡ true) → (y ≡ true → x ≡ true) → x ≡ y
same_truth true y there back = sym (there refl)
same_truth false true there back = back refl
same_truth false false there back = refl

pub beyond_told : (p : PartData) → IsPart p → (bend f : ℕ) → 0 < bend → f < length p.faces → (told : Bool) → IsTrue told ↔ IsBeyond p.faces bend f → told ≡ beyond p.faces bend f
beyond_told p part bend f some inside told is = same_truth told (beyond p.faces bend f) there back
  where
    test : IsTrue (beyond p.faces bend f) ↔ ((b : ℕ) × IsTrue (b == bend) × IsBeyond p.faces b f)
    test = beyond_is p part (λ c. c == bend) (ne_eqb 0 bend (λ e. omega (arith, some, e))) f inside

    there : told ≡ true → beyond p.faces bend f ≡ true
    there h = test.1 (bend, eq-eqb bend bend refl, is.0 h)

    back : beyond p.faces bend f ≡ true → told ≡ true
    back h = let found = test.0 h in is.1 (subst (λ (b : ℕ). IsBeyond p.faces b f) (eqb-true found.0 bend found.1) found.2)

-- two tests differ where the one holds and the other doesn't
pub differ_is : (a b : Bool) → not (beq a b) ≡ ((a && not b) || (b && not a))
differ_is true true = refl
differ_is true false = refl
differ_is false true = refl
differ_is false false = refl

pub one_beyond : (a b : Bool) → a ≡ true → b ≡ false → ((a && not b) || (b && not a)) ≡ true
one_beyond a b p q = rw (p, q) refl

none_beyond : (a b : Bool) → a ≡ false → b ≡ false → ((a && not b) || (b && not a)) ≡ true → ⊥
none_beyond a b p q h = let none : ((a && not b) || (b && not a)) ≡ false = rw (p, q) refl in absurd (cc)

either_way : (a b : Bool) → ((a && not b) || (b && not a)) ≡ ((b && not a) || (a && not b))
either_way true true = refl
either_way true false = refl
either_way false true = refl
either_way false false = refl

-- the first step from a face to one of a smaller number: its bend is on the path, and so are those on the path from its parent
first_step : (p : PartData) → IsPart p → (f g : ℕ) → g < f → f < length p.faces → IsTrue (is_on_path p.faces f g f)
first_step p part f g low inside =
    one_beyond (beyond p.faces f f) (beyond p.faces f g) (beyond_own p part f (omega (arith, low)) inside) (not_beyond p part f g low (omega (arith, low, inside)))

later_step : (p : PartData) → IsPart p → (f g bend : ℕ) → g < f → f < length p.faces → IsTrue (is_on_path p.faces (joint_of p.faces f).on g bend) → IsTrue (is_on_path p.faces f g bend)
later_step p part f g bend low inside h = by_test (f == bend) refl
  where
    by_test : (t : Bool) → (f == bend) ≡ t → IsTrue (is_on_path p.faces f g bend)
    by_test true same =
        let is = eqb-true f bend same in
        let on : (joint_of p.faces f).on < f = (joint_of_part p part).on f (omega (arith, low)) inside in
        absurd (none_beyond _ _ (not_beyond p part bend (joint_of p.faces f).on (omega (arith, on, is)) (omega (arith, on, inside))) (not_beyond p part bend g (omega (arith, low, is)) (omega (arith, low, inside))) h)
    by_test false other =
        let is = beyond_parent p part bend f (omega (arith, low)) inside other in
        ap (λ a. (a && not (beyond p.faces bend g)) || (beyond p.faces bend g && not a)) is ∙ h

turned_round : (faces : List FaceData) (f g bend : ℕ) → IsTrue (is_on_path faces f g bend) → IsTrue (is_on_path faces g f bend)
turned_round faces f g bend h = either_way (beyond faces bend g) (beyond faces bend f) ∙ h

-- a walk between two faces over bends of the path
pub record PathWalk (faces : List FaceData) (f g : ℕ) : Type 0 where
  pub bends : List ℕ
  pub walk : IsWalk faces f bends g
  pub on_path : All (λ bend. IsTrue (is_on_path faces f g bend)) bends

-- a walk between two faces, from those between faces whose numbers are smaller together
longer_walk : (p : PartData) → IsPart p → (f g : ℕ) → f < length p.faces → g < length p.faces → ((e h : ℕ) → e + h < f + g → e < length p.faces → h < length p.faces → PathWalk p.faces e h) → PathWalk p.faces f g
longer_walk p part f g inside within shorter = by_order (cases_lt g f) (cases_lt f g)
  where
    by_order : (g < f) ⊎ (f ≤ g) → (f < g) ⊎ (g ≤ f) → PathWalk p.faces f g
    by_order (inl low) _ =
        let joint = rules_of_joint p part f (omega (arith, low)) inside in
        let rest = shorter (joint_of p.faces f).on g (omega (arith, joint.earlier)) (omega (arith, joint.earlier, inside)) within in
        record {
          bends = f ∷ rest.bends;
          walk = inward f g (joint_of p.faces f) rest.bends joint.has rest.walk;
          on_path = All-cons (λ bend. IsTrue (is_on_path p.faces f g bend)) f rest.bends (first_step p part f g low inside) (All-weaker (λ bend. IsTrue (is_on_path p.faces (joint_of p.faces f).on g bend)) (λ bend. IsTrue (is_on_path p.faces f g bend)) (λ bend h. later_step p part f g bend low inside h) rest.bends rest.on_path);
        }
    by_order (inr _) (inl low) =
        let joint = rules_of_joint p part g (omega (arith, low)) within in
        let rest = shorter f (joint_of p.faces g).on (omega (arith, joint.earlier)) inside (omega (arith, joint.earlier, within)) in
        record {
          bends = rest.bends ++ g ∷ [];
          walk = walk_on p.faces f (joint_of p.faces g).on g rest.bends (g ∷ []) rest.walk (onward g g (joint_of p.faces g) [] joint.has (stay g g refl));
          on_path = All-push (λ bend. IsTrue (is_on_path p.faces f g bend)) rest.bends g (All-weaker (λ bend. IsTrue (is_on_path p.faces f (joint_of p.faces g).on bend)) (λ bend. IsTrue (is_on_path p.faces f g bend)) (λ bend h. turned_round p.faces g f bend (later_step p part g f bend low within (turned_round p.faces f (joint_of p.faces g).on bend h))) rest.bends rest.on_path) (turned_round p.faces g f g (first_step p part g f low within));
        }
    by_order (inr high) (inr low) = record { bends = []; walk = stay f g (omega (arith, high, low)); on_path = All-nil (λ bend. IsTrue (is_on_path p.faces f g bend)) }

walk_up_to : (p : PartData) → IsPart p → (n f g : ℕ) → f + g ≤ n → f < length p.faces → g < length p.faces → PathWalk p.faces f g
walk_up_to p part zero f g few inside within = record { bends = []; walk = stay f g (omega (arith, few)); on_path = All-nil (λ bend. IsTrue (is_on_path p.faces f g bend)) }
walk_up_to p part (suc n) f g few inside within = longer_walk p part f g inside within (λ e h less low high. walk_up_to p part n e h (omega (arith, few, less)) low high)

pub path_walk : (p : PartData) → IsPart p → (f g : ℕ) → f < length p.faces → g < length p.faces → PathWalk p.faces f g
path_walk p part f g inside within = walk_up_to p part (f + g) f g (omega arith) inside within
