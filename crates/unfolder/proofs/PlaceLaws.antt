-- Where each face lies when bends are folded, one bend at a time; and all of them folded, the design.
use Rattle.std.proofs.Common.{◌≡◌, ℕ, zero, suc, ◌-◌, ◌<◌, ◌≤◌, ℤ, ◌+ℤ◌, ◌-ℤ◌, Bool, true, false, List, length, get_or, refl, sym, ◌∙◌, ap, arith}
use Rattle.std.proofs.lemmas.Int.{ints}
use Rattle.std.specs.Prelude.{if◌then◌else◌}
use Rattle.std.proofs.lemmas.List.FromFn.{get_or-map-range_with_len}
use Rattle.brake_base.specs.Turns.{Map, stay, after}
use Rattle.brake_base.specs.Boxes.{image}
use Rattle.brake_base.proofs.Maps.{after_assoc, after-stay, stay-after}
use Rattle.part_file.specs.declared.part.Side.TheVariants.{N, E, S, W}
use Rattle.part_file.specs.Part.{PartData, FaceData, IsPart, face_at, is_bent, half_thickness}
use Rattle.unfolder.specs.Cores.{joint_of, if_bent, core, face_less, is_too_small}
use Rattle.unfolder.specs.Chains.{to_root}
use Rattle.unfolder.specs.Blank.{BlankData, flat_step, flat, bend_line, bend_lines}
use Rattle.unfolder.specs.Design.{design_step, design, thick}
use Rattle.unfolder.specs.Fold.{hinge, fold, place, printed_line, grown_core, folded, FoldsBack}
use Rattle.unfolder.specs.Tables.{no_line}
use Rattle.unfolder.proofs.ChainLemmas.{AreEarlier, joint_of_part, to_root-root, to_root-bend}
use Rattle.unfolder.proofs.FoldLaws.{hinge-after_flat}

-- every core has sizes of at least 1
pub record AreCores (faces : List FaceData) (q : ℤ) : Type 0 where
  pub fits : (f : ℕ) → f < length faces → is_too_small (core faces q f) ≡ false

-- the root stays
pub place-root : (faces : List FaceData) (q h : ℤ) (set : ℕ → Bool) → place faces q h set 0 ≡ stay
place-root faces q h set =
    (λ i. after (to_root-root faces (λ b. if set b then hinge h (bend_line faces q b) else stay) i) (to_root-root faces (flat_step faces q) i)) ∙ after-stay stay

-- A face of a folded bend stands on its parent as in the design, that of another bend lies flat.
pub place-bend : (p : PartData) → IsPart p → (q tau : ℤ) → AreCores p.faces q → (set : ℕ → Bool) (b : ℕ) → 0 < b → b < length p.faces
    → place p.faces q (q -ℤ tau) set b ≡ after (place p.faces q (q -ℤ tau) set (joint_of p.faces b).on) (if set b then design_step p.faces tau b else flat_step p.faces q b)
place-bend p part q tau cores set b some inside =
    let earlier = joint_of_part p part in
    let on = (joint_of p.faces b).on in
    let h = q -ℤ tau in
    let step : ℕ → Map = λ c. if set c then hinge h (bend_line p.faces q c) else stay in
    let before = fold p.faces h (bend_line p.faces q) set on in
    let m = flat p.faces q on in
    (λ i. after (to_root-bend p.faces step earlier b some inside i) (to_root-bend p.faces (flat_step p.faces q) earlier b some inside i))
    ∙ after_assoc before (step b) (after m (flat_step p.faces q b))
    ∙ ap (after before) (by_set before m (set b))
    ∙ sym (after_assoc before m (if set b then design_step p.faces tau b else flat_step p.faces q b))
  where
    by_set : (before m : Map) (t : Bool) → after (if t then hinge (q -ℤ tau) (bend_line p.faces q b) else stay) (after (flat p.faces q (joint_of p.faces b).on) (flat_step p.faces q b)) ≡ after (flat p.faces q (joint_of p.faces b).on) (if t then design_step p.faces tau b else flat_step p.faces q b)
    by_set before m true = hinge-after_flat p part q tau b some inside (cores.fits b inside)
    by_set before m false = stay-after (after (flat p.faces q (joint_of p.faces b).on) (flat_step p.faces q b))

-- the bends that are folded
abbrev pub every_bend : ℕ → Bool
every_bend b = true

designed_up_to : (p : PartData) → IsPart p → (q tau : ℤ) → AreCores p.faces q → (n f : ℕ) → f ≤ n → f < length p.faces → place p.faces q (q -ℤ tau) every_bend f ≡ design p.faces tau f
designed_up_to p part q tau cores n zero few inside = place-root p.faces q (q -ℤ tau) every_bend ∙ sym (to_root-root p.faces (design_step p.faces tau))
designed_up_to p part q tau cores zero (suc b) few inside = absurd (omega arith)
designed_up_to p part q tau cores (suc n) (suc b) few inside =
    let earlier = joint_of_part p part in
    let on : (joint_of p.faces (suc b)).on < suc b = earlier.on (suc b) (omega arith) inside in
    place-bend p part q tau cores every_bend (suc b) (omega arith) inside
    ∙ ap (λ m. after m (design_step p.faces tau (suc b))) (designed_up_to p part q tau cores n (joint_of p.faces (suc b)).on (omega arith) (omega arith))
    ∙ sym (to_root-bend p.faces (design_step p.faces tau) earlier (suc b) (omega arith) inside)

-- folded at every bend, the blank is the design
pub place-every_bend : (p : PartData) → IsPart p → (q tau : ℤ) → AreCores p.faces q → (f : ℕ) → f < length p.faces → place p.faces q (q -ℤ tau) every_bend f ≡ design p.faces tau f
place-every_bend p part q tau cores f inside = designed_up_to p part q tau cores f f (omega arith) inside

-- two lists of steps that agree lead to the root alike
to_root_up_to : (faces : List FaceData) → AreEarlier faces → (step other : ℕ → Map) → ((b : ℕ) → 0 < b → b < length faces → step b ≡ other b) → (n f : ℕ) → f ≤ n → f < length faces → to_root faces step f ≡ to_root faces other f
to_root_up_to faces earlier step other same n zero few inside = to_root-root faces step ∙ sym (to_root-root faces other)
to_root_up_to faces earlier step other same zero (suc b) few inside = absurd (omega arith)
to_root_up_to faces earlier step other same (suc n) (suc b) few inside =
    let on : (joint_of faces (suc b)).on < suc b = earlier.on (suc b) (omega arith) inside in
    to_root-bend faces step earlier (suc b) (omega arith) inside
    ∙ (λ i. after (to_root_up_to faces earlier step other same n (joint_of faces (suc b)).on (omega arith) (omega arith) i) (same (suc b) (omega arith) inside i))
    ∙ sym (to_root-bend faces other earlier (suc b) (omega arith) inside)

pub printed_line_is : (faces : List FaceData) (q : ℤ) (blank : BlankData) (b : ℕ) → blank.bends ≡ bend_lines faces q → 0 < b → b < length faces → printed_line blank b ≡ bend_line faces q b
printed_line_is faces q blank b bends some inside = ap (λ lines. get_or lines (b - 1) no_line) bends ∙ get_or-map-range_with_len (bend_line faces q) 1 (length faces - 1) (b - 1) b no_line (omega arith) (omega arith)

pub folded_is : (p : PartData) → IsPart p → (q h : ℤ) (blank : BlankData) → blank.bends ≡ bend_lines p.faces q → (f : ℕ) → f < length p.faces → folded p.faces q h blank f ≡ place p.faces q h every_bend f
folded_is p part q h blank bends f inside =
    ap (λ m. after m (flat p.faces q f))
    (to_root_up_to p.faces (joint_of_part p part) (λ b. hinge h (printed_line blank b)) (λ b. hinge h (bend_line p.faces q b)) (λ b some below. ap (hinge h) (printed_line_is p.faces q blank b bends some below)) f f (omega arith) inside)

-- a core grown to its mould lines is the outside rectangle less tau
low_side : (t : Bool) (q tau : ℤ) → if_bent t q -ℤ if_bent t (q -ℤ tau) ≡ if_bent t tau
low_side true q tau = omega (arith, ints)
low_side false q tau = refl

high_side : (t : Bool) (n q tau : ℤ) → (n -ℤ if_bent t q) +ℤ if_bent t (q -ℤ tau) ≡ n -ℤ if_bent t tau
high_side true n q tau = omega (arith, ints)
high_side false n q tau = omega (arith, ints)

pub grown_core_is : (faces : List FaceData) (q tau : ℤ) (f : ℕ) → grown_core faces q (q -ℤ tau) f ≡ face_less faces tau f
grown_core_is faces q tau f = λ i. record {
  x0 = low_side (is_bent faces f W) q tau i;
  x1 = high_side (is_bent faces f E) (face_at faces f).width q tau i;
  y0 = low_side (is_bent faces f S) q tau i;
  y1 = high_side (is_bent faces f N) (face_at faces f).length q tau i;
}

-- the printed blank folds back to the designed part
pub folds_back : (p : PartData) → IsPart p → (q : ℤ) (blank : BlankData) → AreCores p.faces q → blank.bends ≡ bend_lines p.faces q → FoldsBack p q blank
folds_back p part q blank cores bends =
    let tau = half_thickness p in
    let places : (f : ℕ) → f < length p.faces → folded p.faces q (q -ℤ tau) blank f ≡ design p.faces tau f = λ f inside. folded_is p part q (q -ℤ tau) blank bends f inside ∙ place-every_bend p part q tau cores f inside in
    record {
      places = places;
      plates = λ f inside. (λ i. image (places f inside i) (thick tau (grown_core_is p.faces q tau f i)));
    }
