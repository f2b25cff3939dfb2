-- A part whose faces all lie in their places unfolds, and meets the rules of the part file.
use Rattle.std.proofs.Common.{◌≡◌, ℕ, zero, suc, ◌+◌, ◌-◌, ◌<◌, ◌≤◌, pos, Bool, true, false, ◌&&◌, List, [], ◌∷◌, codes, length, map, get_or, None, refl, ap, subst, sym, ◌∙◌, ◌⊎◌, inl, inr, add-zero, zero-add, arith}
use Rattle.std.specs.Prelude.{IsOk, IsTrue, find, position, option_map}
use Rattle.std.specs.List.{list_all, range_with_len}
use Rattle.std.proofs.lemmas.Bool.{cases_Bool, and_parts}
use Rattle.std.proofs.lemmas.Bool.Decides.{nat_tests}
use Rattle.std.proofs.lemmas.Int.{ints}
use Rattle.std.proofs.lemmas.List.Folds.{list_all_at}
use Rattle.std.proofs.lemmas.List.FromFn.{get_or-map-range_with_len, length-map-range_with_len}
use Rattle.toml_fields.specs.Fields.{is_name}
use Rattle.part_file.specs.Part.{FaceData, PartData, joint_at, IsPart}
use Rattle.unfolder.specs.declared.blank.UnfoldFault.TheVariants.{CoreTooSmall, BendOffFace}
use Rattle.unfolder.specs.Cores.{core, is_too_small, is_off_face}
use Rattle.toml_fields.specs.Results.{refuse_found}
use Rattle.unfolder.specs.Blank.{flat_face, bend_numbers, pairs_below, is_overlap, no_flat_face, is_overlap_in, cores_of, flat_faces, bend_lines, flat_overlap, blank_of_part}
use Rattle.unfolder.specs.Tables.{no_rect}
use Rattle.unfolder.proofs.Finding.{find_none, find_flat_none, find-map, position_none}
use Rattle.unfolder.proofs.Layouts.{core_at, gives_blank}
use Rattle.part_gen.specs.Generator.{face_name}
use Rattle.part_gen.proofs.Rectangles.{Role, root_role, is_before, disjoint}
use Rattle.part_gen.proofs.Flanges.{edge_of}
use Rattle.part_gen.proofs.Laid.{Sizes, root_of, end_of, IsLaid}

-- the faces from number f on have these roles
abbrev pub AreLaid : Sizes → List FaceData → ℕ → List Role → Type 0
AreLaid s faces f [] = Unit {0}
AreLaid s faces f (role ∷ roles) = IsLaid s faces role f × AreLaid s faces (suc f) roles

-- each role comes before all later ones
abbrev pub are_ordered : List Role → Bool
are_ordered [] = true
are_ordered (role ∷ roles) = list_all (is_before role) roles && are_ordered roles

pub laid_at : (s : Sizes) (faces : List FaceData) (f : ℕ) (roles : List Role) (k : ℕ) → AreLaid s faces f roles → k < length roles → IsLaid s faces (get_or roles k root_role) (f + k)
laid_at s faces f [] k all inside = absurd (omega arith)
laid_at s faces f (role ∷ roles) zero all inside = rw add-zero all.0
laid_at s faces f (role ∷ roles) (suc k) all inside =
    let number : suc f + k ≡ f + suc k = omega arith in
    subst (λ (n : ℕ). IsLaid s faces (get_or roles k root_role) n) number (laid_at s faces (suc f) roles k all.1 (omega arith))

all_after : (role : Role) (roles : List Role) (k : ℕ) → list_all (is_before role) roles ≡ true → k < length roles → is_before role (get_or roles k root_role) ≡ true
all_after role roles k all inside = by_test (cases_Bool (is_before role (get_or roles k root_role)))
  where
    by_test : (is_before role (get_or roles k root_role) ≡ true) ⊎ (is_before role (get_or roles k root_role) ≡ false) → is_before role (get_or roles k root_role) ≡ true
    by_test (inl passes) = passes
    by_test (inr fails) = absurd (let clash = sym all ∙ list_all_at (is_before role) roles k root_role inside fails in cc)

ordered_at : (roles : List Role) (a b : ℕ) → are_ordered roles ≡ true → a < b → b < length roles → is_before (get_or roles a root_role) (get_or roles b root_role) ≡ true
ordered_at [] a b ordered below inside = absurd (omega arith)
ordered_at (role ∷ roles) a zero ordered below inside = absurd (omega arith)
ordered_at (role ∷ roles) zero (suc b) ordered below inside = all_after role roles b (and_parts (list_all (is_before role) roles) (are_ordered roles) ordered).0 (omega arith)
ordered_at (role ∷ roles) (suc a) (suc b) ordered below inside = ordered_at roles a b (and_parts (list_all (is_before role) roles) (are_ordered roles) ordered).1 (omega arith) (omega arith)

-- a part of such faces
pub record IsFlanged (s : Sizes) (faces : List FaceData) (roles : List Role) : Type 0 where
  pub laid : AreLaid s faces 0 roles
  pub ordered : are_ordered roles ≡ true
  pub count : length roles ≡ length faces

face_is : (s : Sizes) (faces : List FaceData) (roles : List Role) → IsFlanged s faces roles → (f : ℕ) → f < length faces → IsLaid s faces (get_or roles f root_role) f
face_is s faces roles flanged f inside = let count = flanged.count in subst (λ (n : ℕ). IsLaid s faces (get_or roles f root_role) n) (zero-add f) (laid_at s faces 0 roles f flanged.laid (omega arith))

no_overlap : (s : Sizes) (faces : List FaceData) (roles : List Role) → IsFlanged s faces roles → (a b : ℕ) → a < b → b < length faces → is_overlap_in (flat_faces faces s.q) (a, b) ≡ false
no_overlap s faces roles flanged a b below inside =
    let count = flanged.count in
    let first_rect : get_or (flat_faces faces s.q) a no_flat_face ≡ flat_face faces s.q a = get_or-map-range_with_len (flat_face faces s.q) 0 (length faces) a a no_flat_face (omega arith) (omega arith) in
    let second_rect : get_or (flat_faces faces s.q) b no_flat_face ≡ flat_face faces s.q b = get_or-map-range_with_len (flat_face faces s.q) 0 (length faces) b b no_flat_face inside (omega arith) in
    let one = face_is s faces roles flanged a (omega arith) in
    let other = face_is s faces roles flanged b inside in
    (λ i. is_overlap (first_rect i).rect (second_rect i).rect)
    ∙ disjoint (edge_of (root_of s) s.q) (end_of s) (get_or roles a root_role) (get_or roles b root_role) (flat_face faces s.q a).rect (flat_face faces s.q b).rect (ordered_at roles a b flanged.ordered below (omega arith)) one.placed other.placed

no_pair : (s : Sizes) (faces : List FaceData) (roles : List Role) → IsFlanged s faces roles → find (is_overlap_in (flat_faces faces s.q)) (pairs_below (length faces)) ≡ None
no_pair s faces roles flanged =
    let p = is_overlap_in (flat_faces faces s.q) in
    let later = λ (a : ℕ). range_with_len (a + 1) (length faces - (a + 1)) in
    find_flat_none p (λ (a : ℕ). map (λ (b : ℕ). (a, b)) (later a)) 0 (length faces) (λ a low high.
    find-map p (λ (b : ℕ). (a, b)) (later a)
    ∙ ap (option_map (λ (b : ℕ). (a, b))) (find_none (λ (b : ℕ). p (a, b)) (a + 1) (length faces - (a + 1)) (λ b more less. no_overlap s faces roles flanged a b (omega arith) (omega arith))))

no_small : (s : Sizes) (faces : List FaceData) (roles : List Role) → IsFlanged s faces roles → position is_too_small (cores_of faces s.q) ≡ None
no_small s faces roles flanged =
    position_none is_too_small (cores_of faces s.q) no_rect (λ k inside.
    let within : k < length faces = let long = length-map-range_with_len (core faces s.q) 0 (length faces) in omega arith in
    ap is_too_small (core_at faces s.q (cores_of faces s.q) k refl within) ∙ (face_is s faces roles flanged k within).fits)

none_off : (s : Sizes) (faces : List FaceData) (roles : List Role) → IsFlanged s faces roles → find (is_off_face faces s.q) (bend_numbers faces) ≡ None
none_off s faces roles flanged = find_none (is_off_face faces s.q) 1 (length faces - 1) (λ b low high. (face_is s faces roles flanged b (omega arith)).on_edge (omega arith))

pub unfolds : (s : Sizes) (part : PartData) (roles : List Role) → IsFlanged s part.faces roles → IsOk (blank_of_part part s.q)
unfolds s part roles flanged =
    let cores = ap (λ o. refuse_found o CoreTooSmall) (no_small s part.faces roles flanged) in
    let lines = ap (λ o. refuse_found o BendOffFace) (none_off s part.faces roles flanged) in
    let pairs = ap (λ o. refuse_found o flat_overlap) (no_pair s part.faces roles flanged) in
    let blank = gives_blank part s.q (flat_faces part.faces s.q) (bend_lines part.faces s.q) (sym cores) (sym lines) (sym pairs) refl refl in
    subst IsOk (sym blank) refl

-- the letter f and a digit are a name, and different digits give different names
is_face_name : (f : ℕ) → f < 10 → IsTrue (is_name (face_name f))
is_face_name f below = grind (arith, nat_tests)

different : (f g : ℕ) → f < g → face_name f ≡ face_name g → ⊥
different f g below same = let digits : 48 + f ≡ 48 + g = cc in omega arith

pub is_part : (s : Sizes) (faces : List FaceData) (roles : List Role) → IsFlanged s faces roles → 0 < length faces → length faces ≤ 9 → joint_at faces 0 ≡ None → IsPart (record { material = codes "S235"; thickness = pos 2000; radius = pos 2000; faces = faces })
is_part s faces roles flanged some few lone = record {
  sheet = record {
    material = refl;
    thickness = record { range = record { bottom = omega (arith, ints); top = omega (arith, ints) }; even = refl };
    radius = record { bottom = omega (arith, ints); top = omega (arith, ints) };
  };
  some_face = some;
  few_faces = omega arith;
  each_face = λ b inside.
      let face = face_is s faces roles flanged b inside in
      record {
        name = subst (λ (name : List ℕ). IsTrue (is_name name)) (sym face.name) (is_face_name b (omega arith));
        new_name = record { differs = λ f before same. different f b before (sym (face_is s faces roles flanged f (omega arith)).name ∙ same ∙ face.name) };
        placed = record {
          sizes = record { wide = face.wide; long = face.long };
          joined = record { root = λ zero. subst (λ (n : ℕ). joint_at faces n ≡ None) (sym zero) lone; joint = λ low. face.joined low };
        };
      };
}
