-- The four lists of faces: E and W have a second flange or not.
use Rattle.std.proofs.Common.{◌≡◌, ℕ, ◌<◌, ℤ, pos, ◌≤ℤ◌, Bool, true, false, List, [], ◌∷◌, refl, subst, arith}
use Rattle.part_file.specs.declared.part.Side.{Side}
use Rattle.part_file.specs.declared.part.Side.TheVariants.{N, E, S, W}
use Rattle.part_file.specs.declared.part.Dir.{Dir}
use Rattle.brake_base.specs.Turns.{after, stay}
use Rattle.part_file.specs.Part.{FaceData, face_at}
use Rattle.unfolder.specs.Blank.{flat, flat_step}
use Rattle.unfolder.specs.Chains.{to_root}
use Rattle.part_gen.specs.Generator.{first_number}
use Rattle.part_gen.proofs.Sides.{by_side, every_side}
use Rattle.part_gen.proofs.Rectangles.{Role, root_role, first_role, second_role}
use Rattle.part_gen.proofs.Laid.{Sizes, AreInRange, IsLaid, IsBentAt, IsBentAround, root_of, first_of, second_of, root_laid, first_laid, second_laid}
use Rattle.part_gen.proofs.Unfolding.{AreLaid, IsFlanged}

-- sizes with a second flange on N and S, and on E and W or not
abbrev pub sizes : ℤ → ℤ → ℤ → (Side → ℤ) → Bool → Bool → Sizes
sizes q width length first east west = record { q = q; width = width; length = length; first = first; has_second = by_side true east true west }

-- the directions of all flanges, and the lengths of the second ones
pub record Bends : Type 0 where
  pub first_dir : Side → Dir
  pub dir : Side → Dir
  pub length : Side → ℤ

pub record AreLong (b : Bends) : Type 0 where
  pub low : (side : Side) → pos 8000 ≤ℤ b.length side
  pub high : (side : Side) → b.length side ≤ℤ pos 10000000

abbrev pub second_at : Sizes → Bends → Side → ℕ → FaceData
second_at s b side number = second_of s side number (b.length side) (b.dir side)

-- face 0, the first flanges, and these second flanges
abbrev pub flanged : Sizes → Bends → List FaceData → List FaceData
flanged s b seconds = root_of s ∷ first_of s N (b.first_dir N) ∷ first_of s E (b.first_dir E) ∷ first_of s S (b.first_dir S) ∷ first_of s W (b.first_dir W) ∷ seconds

abbrev pub seconds_of : Sizes → Bends → Bool → Bool → List FaceData
seconds_of s b true true = second_at s b N 5 ∷ second_at s b E 6 ∷ second_at s b S 7 ∷ second_at s b W 8 ∷ []
seconds_of s b true false = second_at s b N 5 ∷ second_at s b E 6 ∷ second_at s b S 7 ∷ []
seconds_of s b false true = second_at s b N 5 ∷ second_at s b S 6 ∷ second_at s b W 7 ∷ []
seconds_of s b false false = second_at s b N 5 ∷ second_at s b S 6 ∷ []

abbrev pub faces_of : ℤ → ℤ → ℤ → (Side → ℤ) → Bends → Bool → Bool → List FaceData
faces_of q width length first b east west = flanged (sizes q width length first east west) b (seconds_of (sizes q width length first east west) b east west)

abbrev second_roles : Bool → Bool → List Role
second_roles true true = second_role N ∷ second_role E ∷ second_role S ∷ second_role W ∷ []
second_roles true false = second_role N ∷ second_role E ∷ second_role S ∷ []
second_roles false true = second_role N ∷ second_role S ∷ second_role W ∷ []
second_roles false false = second_role N ∷ second_role S ∷ []

abbrev pub roles_of : Bool → Bool → List Role
roles_of east west = root_role ∷ first_role N ∷ first_role E ∷ first_role S ∷ first_role W ∷ second_roles east west

-- how face 0 and the first flanges stand in all four lists
record IsBuilt (s : Sizes) (b : Bends) (faces : List FaceData) : Type 0 where
  root : face_at faces 0 ≡ root_of s
  around : IsBentAround faces
  first : (side : Side) → face_at faces (first_number side) ≡ first_of s side (b.first_dir side)
  bent : (side : Side) → IsBentAt faces (first_number side) (s.has_second side)
  laid_flat : (side : Side) → flat faces s.q (first_number side) ≡ after stay (flat_step faces s.q (first_number side))

-- how a second flange stands
record IsSecond (s : Sizes) (b : Bends) (faces : List FaceData) (side : Side) (number : ℕ) : Type 0 where
  has : s.has_second side ≡ true
  behind : first_number side < number
  second : face_at faces number ≡ second_at s b side number
  bent : IsBentAt faces number false
  laid_flat : flat faces s.q number ≡ after (after stay (flat_step faces s.q (first_number side))) (flat_step faces s.q number)

first_is : (s : Sizes) (b : Bends) (faces : List FaceData) → AreInRange s → IsBuilt s b faces → (side : Side) → IsLaid s faces (first_role side) (first_number side)
first_is s b faces range built side = first_laid s range faces side (b.first_dir side) built.root built.around (built.first side) (built.bent side) (built.laid_flat side)

second_is : (s : Sizes) (b : Bends) (faces : List FaceData) → AreInRange s → AreLong b → IsBuilt s b faces → (side : Side) (number : ℕ) → IsSecond s b faces side number → IsLaid s faces (second_role side) number
second_is s b faces range long built side number stands =
    let bent : IsBentAt faces (first_number side) true = subst (IsBentAt faces (first_number side)) stands.has (built.bent side) in
    second_laid s range faces side number (b.length side) (b.first_dir side) (b.dir side) (long.low side) (long.high side) stands.has stands.behind built.root (built.first side) bent stands.second stands.bent stands.laid_flat

-- the faces are laid where the second flanges are
with_first : (s : Sizes) (b : Bends) (faces : List FaceData) (seconds : List Role) → AreInRange s → IsBuilt s b faces → AreLaid s faces 5 seconds
    → AreLaid s faces 0 (root_role ∷ first_role N ∷ first_role E ∷ first_role S ∷ first_role W ∷ seconds)
with_first s b faces seconds range built laid =
    let first = first_is s b faces range built in
    (root_laid s range faces built.root built.around, (first N, (first E, (first S, (first W, laid)))))

built_true_true : (q width length : ℤ) (first : Side → ℤ) (b : Bends) → IsBuilt (sizes q width length first true true) b (faces_of q width length first b true true)
unfolding to_root
built_true_true q width length first b = record {
  root = refl;
  around = record { n = refl; e = refl; s = refl; w = refl };
  first = every_side (λ side. face_at (faces_of q width length first b true true) (first_number side) ≡ first_of (sizes q width length first true true) side (b.first_dir side)) refl refl refl refl;
  bent = every_side (λ side. IsBentAt (faces_of q width length first b true true) (first_number side) ((sizes q width length first true true).has_second side)) (record { n = refl; e = refl; s = refl; w = refl }) (record { n = refl; e = refl; s = refl; w = refl }) (record { n = refl; e = refl; s = refl; w = refl }) (record { n = refl; e = refl; s = refl; w = refl });
  laid_flat = every_side (λ side. flat (faces_of q width length first b true true) q (first_number side) ≡ after stay (flat_step (faces_of q width length first b true true) q (first_number side))) refl refl refl refl;
}

laid_true_true : (q width length : ℤ) (first : Side → ℤ) (b : Bends) → AreInRange (sizes q width length first true true) → AreLong b → AreLaid (sizes q width length first true true) (faces_of q width length first b true true) 0 (roles_of true true)
unfolding to_root
laid_true_true q width length first b range long =
    let s = sizes q width length first true true in
    let faces = faces_of q width length first b true true in
    let built = built_true_true q width length first b in
    let north : IsSecond s b faces N 5 = record { has = refl; behind = omega arith; second = refl; bent = record { n = refl; e = refl; s = refl; w = refl }; laid_flat = refl } in
    let east : IsSecond s b faces E 6 = record { has = refl; behind = omega arith; second = refl; bent = record { n = refl; e = refl; s = refl; w = refl }; laid_flat = refl } in
    let south : IsSecond s b faces S 7 = record { has = refl; behind = omega arith; second = refl; bent = record { n = refl; e = refl; s = refl; w = refl }; laid_flat = refl } in
    let west : IsSecond s b faces W 8 = record { has = refl; behind = omega arith; second = refl; bent = record { n = refl; e = refl; s = refl; w = refl }; laid_flat = refl } in
    with_first s b faces (second_roles true true) range built (second_is s b faces range long built N 5 north, (second_is s b faces range long built E 6 east, (second_is s b faces range long built S 7 south, (second_is s b faces range long built W 8 west, tt))))

built_true_false : (q width length : ℤ) (first : Side → ℤ) (b : Bends) → IsBuilt (sizes q width length first true false) b (faces_of q width length first b true false)
unfolding to_root
built_true_false q width length first b = record {
  root = refl;
  around = record { n = refl; e = refl; s = refl; w = refl };
  first = every_side (λ side. face_at (faces_of q width length first b true false) (first_number side) ≡ first_of (sizes q width length first true false) side (b.first_dir side)) refl refl refl refl;
  bent = every_side (λ side. IsBentAt (faces_of q width length first b true false) (first_number side) ((sizes q width length first true false).has_second side)) (record { n = refl; e = refl; s = refl; w = refl }) (record { n = refl; e = refl; s = refl; w = refl }) (record { n = refl; e = refl; s = refl; w = refl }) (record { n = refl; e = refl; s = refl; w = refl });
  laid_flat = every_side (λ side. flat (faces_of q width length first b true false) q (first_number side) ≡ after stay (flat_step (faces_of q width length first b true false) q (first_number side))) refl refl refl refl;
}

laid_true_false : (q width length : ℤ) (first : Side → ℤ) (b : Bends) → AreInRange (sizes q width length first true false) → AreLong b → AreLaid (sizes q width length first true false) (faces_of q width length first b true false) 0 (roles_of true false)
unfolding to_root
laid_true_false q width length first b range long =
    let s = sizes q width length first true false in
    let faces = faces_of q width length first b true false in
    let built = built_true_false q width length first b in
    let north : IsSecond s b faces N 5 = record { has = refl; behind = omega arith; second = refl; bent = record { n = refl; e = refl; s = refl; w = refl }; laid_flat = refl } in
    let east : IsSecond s b faces E 6 = record { has = refl; behind = omega arith; second = refl; bent = record { n = refl; e = refl; s = refl; w = refl }; laid_flat = refl } in
    let south : IsSecond s b faces S 7 = record { has = refl; behind = omega arith; second = refl; bent = record { n = refl; e = refl; s = refl; w = refl }; laid_flat = refl } in
    with_first s b faces (second_roles true false) range built (second_is s b faces range long built N 5 north, (second_is s b faces range long built E 6 east, (second_is s b faces range long built S 7 south, tt)))

built_false_true : (q width length : ℤ) (first : Side → ℤ) (b : Bends) → IsBuilt (sizes q width length first false true) b (faces_of q width length first b false true)
unfolding to_root
built_false_true q width length first b = record {
  root = refl;
  around = record { n = refl; e = refl; s = refl; w = refl };
  first = every_side (λ side. face_at (faces_of q width length first b false true) (first_number side) ≡ first_of (sizes q width length first false true) side (b.first_dir side)) refl refl refl refl;
  bent = every_side (λ side. IsBentAt (faces_of q width length first b false true) (first_number side) ((sizes q width length first false true).has_second side)) (record { n = refl; e = refl; s = refl; w = refl }) (record { n = refl; e = refl; s = refl; w = refl }) (record { n = refl; e = refl; s = refl; w = refl }) (record { n = refl; e = refl; s = refl; w = refl });
  laid_flat = every_side (λ side. flat (faces_of q width length first b false true) q (first_number side) ≡ after stay (flat_step (faces_of q width length first b false true) q (first_number side))) refl refl refl refl;
}

laid_false_true : (q width length : ℤ) (first : Side → ℤ) (b : Bends) → AreInRange (sizes q width length first false true) → AreLong b → AreLaid (sizes q width length first false true) (faces_of q width length first b false true) 0 (roles_of false true)
unfolding to_root
laid_false_true q width length first b range long =
    let s = sizes q width length first false true in
    let faces = faces_of q width length first b false true in
    let built = built_false_true q width length first b in
    let north : IsSecond s b faces N 5 = record { has = refl; behind = omega arith; second = refl; bent = record { n = refl; e = refl; s = refl; w = refl }; laid_flat = refl } in
    let south : IsSecond s b faces S 6 = record { has = refl; behind = omega arith; second = refl; bent = record { n = refl; e = refl; s = refl; w = refl }; laid_flat = refl } in
    let west : IsSecond s b faces W 7 = record { has = refl; behind = omega arith; second = refl; bent = record { n = refl; e = refl; s = refl; w = refl }; laid_flat = refl } in
    with_first s b faces (second_roles false true) range built (second_is s b faces range long built N 5 north, (second_is s b faces range long built S 6 south, (second_is s b faces range long built W 7 west, tt)))

built_false_false : (q width length : ℤ) (first : Side → ℤ) (b : Bends) → IsBuilt (sizes q width length first false false) b (faces_of q width length first b false false)
unfolding to_root
built_false_false q width length first b = record {
  root = refl;
  around = record { n = refl; e = refl; s = refl; w = refl };
  first = every_side (λ side. face_at (faces_of q width length first b false false) (first_number side) ≡ first_of (sizes q width length first false false) side (b.first_dir side)) refl refl refl refl;
  bent = every_side (λ side. IsBentAt (faces_of q width length first b false false) (first_number side) ((sizes q width length first false false).has_second side)) (record { n = refl; e = refl; s = refl; w = refl }) (record { n = refl; e = refl; s = refl; w = refl }) (record { n = refl; e = refl; s = refl; w = refl }) (record { n = refl; e = refl; s = refl; w = refl });
  laid_flat = every_side (λ side. flat (faces_of q width length first b false false) q (first_number side) ≡ after stay (flat_step (faces_of q width length first b false false) q (first_number side))) refl refl refl refl;
}

laid_false_false : (q width length : ℤ) (first : Side → ℤ) (b : Bends) → AreInRange (sizes q width length first false false) → AreLong b → AreLaid (sizes q width length first false false) (faces_of q width length first b false false) 0 (roles_of false false)
unfolding to_root
laid_false_false q width length first b range long =
    let s = sizes q width length first false false in
    let faces = faces_of q width length first b false false in
    let built = built_false_false q width length first b in
    let north : IsSecond s b faces N 5 = record { has = refl; behind = omega arith; second = refl; bent = record { n = refl; e = refl; s = refl; w = refl }; laid_flat = refl } in
    let south : IsSecond s b faces S 6 = record { has = refl; behind = omega arith; second = refl; bent = record { n = refl; e = refl; s = refl; w = refl }; laid_flat = refl } in
    with_first s b faces (second_roles false false) range built (second_is s b faces range long built N 5 north, (second_is s b faces range long built S 6 south, tt))

pub is_flanged : (q width length : ℤ) (first : Side → ℤ) (b : Bends) (east west : Bool) → AreInRange (sizes q width length first east west) → AreLong b
    → IsFlanged (sizes q width length first east west) (faces_of q width length first b east west) (roles_of east west)
is_flanged q width length first b true true range long = record { laid = laid_true_true q width length first b range long; ordered = refl; count = refl }
is_flanged q width length first b true false range long = record { laid = laid_true_false q width length first b range long; ordered = refl; count = refl }
is_flanged q width length first b false true range long = record { laid = laid_false_true q width length first b range long; ordered = refl; count = refl }
is_flanged q width length first b false false range long = record { laid = laid_false_false q width length first b range long; ordered = refl; count = refl }
