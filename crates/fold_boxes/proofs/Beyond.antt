-- The faces beyond the bends of a set, one bend at a time.
use Rattle.std.proofs.Common.{◌≡◌, ◌↔◌, ℕ, zero, suc, ◌<◌, ◌≤◌, Bool, true, false, ◌&&◌, ◌||◌, nat_lt, List, length, IsTrue, refl, sym, ◌∙◌, ap, arith}
use Rattle.std.specs.Prelude.{unwrap_or}
use Rattle.std.proofs.lemmas.Bool.{lt-ltb, le-ltb}
use Rattle.part_file.specs.declared.part.Joint.{Joint}
use Rattle.part_file.specs.Part.{FaceData, PartData, IsPart, IsBeyond, child, further}
use Rattle.part_file.proofs.Joints.{is_earlier}
use Rattle.unfolder.specs.Cores.{joint_of, no_joint}
use Rattle.unfolder.proofs.ChainLemmas.{AreEarlier, joint_of_part}
use Rattle.fold_boxes.specs.Pose.{is_on_way, is_beyond_some}

-- more steps than the way has make no difference
enough_way : (faces : List FaceData) (set : ℕ → Bool) → AreEarlier faces → (n m f : ℕ) → f < length faces → f ≤ n → f ≤ m → is_on_way faces set n f ≡ is_on_way faces set m f
enough_way faces set earlier zero zero zero inside few many = refl
enough_way faces set earlier zero (suc m) zero inside few many = refl
enough_way faces set earlier (suc n) zero zero inside few many = refl
enough_way faces set earlier (suc n) (suc m) zero inside few many = refl
enough_way faces set earlier zero m (suc f) inside few many = absurd (omega arith)
enough_way faces set earlier (suc n) zero (suc f) inside few many = absurd (omega arith)
enough_way faces set earlier (suc n) (suc m) (suc f) inside few many =
    let on : (joint_of faces (suc f)).on < suc f = earlier.on (suc f) (omega arith) inside in
    ap (λ (t : Bool). set (suc f) || t) (enough_way faces set earlier n m (joint_of faces (suc f)).on (omega arith) (omega arith) (omega arith))

pub beyond-root : (faces : List FaceData) (set : ℕ → Bool) → is_beyond_some faces set 0 ≡ false
unfolding is_beyond_some
beyond-root faces set = refl

pub beyond-bend : (faces : List FaceData) (set : ℕ → Bool) → AreEarlier faces → (b : ℕ) → 0 < b → b < length faces
    → is_beyond_some faces set b ≡ (set b || is_beyond_some faces set (joint_of faces b).on)
unfolding is_beyond_some
beyond-bend faces set earlier zero some inside = absurd (omega arith)
beyond-bend faces set earlier (suc b) some inside =
    let on : (joint_of faces (suc b)).on < suc b = earlier.on (suc b) some inside in
    ap (λ (t : Bool). set (suc b) || t) (enough_way faces set earlier b (joint_of faces (suc b)).on (joint_of faces (suc b)).on (omega arith) (omega arith) (omega arith))

-- before the first bend there is none
pub none_yet : (test : ℕ → Bool) (f : ℕ) → test 0 ≡ false → false ≡ (nat_lt f 1 && test f)
none_yet test zero h = sym h
none_yet test (suc f) h = rw (le-ltb (suc f) 1 (omega arith)) refl

-- what is found of the faces so far is found of an earlier one
pub found_earlier : (test : ℕ → Bool) (f n : ℕ) → f < n → (nat_lt f n && test f) ≡ test f
found_earlier test f n low = rw (lt-ltb f n low) refl

-- nothing is found of a later one
pub none_later : (test : ℕ → Bool) (f n : ℕ) → n ≤ f → (nat_lt f n && test f) ≡ false
none_later test f n past = rw (le-ltb f n past) refl

-- a face lies beyond some bend of the set exactly where it lies beyond one of them
found_beyond : (p : PartData) → IsPart p → (set : ℕ → Bool) → (n f : ℕ) → f ≤ n → f < length p.faces → is_beyond_some p.faces set f ≡ true → (b : ℕ) × IsTrue (set b) × IsBeyond p.faces b f
found_beyond p part set n zero few inside h = absurd (let none = beyond-root p.faces set in cc)
found_beyond p part set zero (suc f) few inside h = absurd (omega arith)
found_beyond p part set (suc n) (suc f) few inside h =
    let known = (part.each_face (suc f) inside).placed.joined.joint (omega arith) in
    let is : joint_of p.faces (suc f) ≡ known.0 = ap (λ o. unwrap_or o no_joint) known.1.has in
    let on : known.0.on < suc f = known.1.earlier in
    let same_on : (joint_of p.faces (suc f)).on ≡ known.0.on = ap (λ (j : Joint). j.on) is in
    by_test (set (suc f)) refl (sym (beyond-bend p.faces set (joint_of_part p part) (suc f) (omega arith) inside) ∙ h)
    (λ further_in. let inner = found_beyond p part set n known.0.on (omega (arith, on)) (omega (arith, on, inside)) (ap (is_beyond_some p.faces set) (sym same_on) ∙ further_in) in (inner.0, inner.1, further (suc f) known.0 known.1.has inner.2))
  where
    by_test : (t : Bool) → set (suc f) ≡ t → (t || is_beyond_some p.faces set (joint_of p.faces (suc f)).on) ≡ true
        → (is_beyond_some p.faces set (joint_of p.faces (suc f)).on ≡ true → (b : ℕ) × IsTrue (set b) × IsBeyond p.faces b (suc f)) → (b : ℕ) × IsTrue (set b) × IsBeyond p.faces b (suc f)
    by_test true here h step = (suc f, here, child (suc f) refl)
    by_test false here h step = step h

lies_beyond : (p : PartData) → IsPart p → (set : ℕ → Bool) → set 0 ≡ false → (b f : ℕ) → f < length p.faces → IsTrue (set b) → IsBeyond p.faces b f → is_beyond_some p.faces set f ≡ true
lies_beyond p part set none b f inside member (child g same) = by_number g same inside
  where
    by_number : (n : ℕ) → n ≡ b → n < length p.faces → is_beyond_some p.faces set n ≡ true
    by_number zero e low = absurd (let here = ap set e in cc)
    by_number (suc n) e low =
        beyond-bend p.faces set (joint_of_part p part) (suc n) (omega arith) low
        ∙ ap (λ (t : Bool). t || is_beyond_some p.faces set (joint_of p.faces (suc n)).on) (ap set e ∙ member)
lies_beyond p part set none b f inside member (further g joint has_joint inner) =
    let earlier = is_earlier p part g inside joint has_joint in
    let is : joint_of p.faces g ≡ joint = ap (λ o. unwrap_or o no_joint) has_joint in
    let parent = lies_beyond p part set none b joint.on (omega (arith, earlier, inside)) member inner in
    beyond-bend p.faces set (joint_of_part p part) g (omega (arith, earlier)) inside
    ∙ ap (λ (t : Bool). set g || t) (ap (λ (j : Joint). is_beyond_some p.faces set j.on) is ∙ parent)
    ∙ either (set g)
  where
    either : (t : Bool) → (t || true) ≡ true
    either true = refl
    either false = refl

pub beyond_is : (p : PartData) → IsPart p → (set : ℕ → Bool) → set 0 ≡ false → (f : ℕ) → f < length p.faces
    → IsTrue (is_beyond_some p.faces set f) ↔ ((b : ℕ) × IsTrue (set b) × IsBeyond p.faces b f)
beyond_is p part set none f inside = (found_beyond p part set f f (omega arith) inside, λ found. lies_beyond p part set none found.0 f inside found.1 found.2)
