-- Tests that decide the rules of a part.
use Rattle.std.proofs.Common.{◌≡◌, ◌≢◌, ◌↔◌, ℕ, zero, suc, ◌<◌, ◌≤◌, ◌==◌, ℤ, pos, ◌+ℤ◌, Bool, true, false, not, ◌&&◌, nat_lt, List, length, map, take, get_or, Option, Some, None, bytes_eq, IsTrue, Decides, refl, sym, ap, subst, ◌∙◌, inl, inr, zero-add, eqb-true, eq-eqb, ltb-true, lt-ltb, arith}
use Rattle.std.specs.Prelude.{int_le}
use Rattle.std.specs.List.{list_any, range_with_len, AllWithin, HoldsAt}
use Rattle.std.specs.Bool.{MatchBool}
use Rattle.std.proofs.lemmas.Bool.{cases_lt, false≢true, both_ways, not_from_false, not-true, false_from_ne_true}
use Rattle.std.proofs.lemmas.Bool.Decides.{Decides-and, Decides-like}
use Rattle.std.proofs.lemmas.List.{get_or-map, get_or-take, get_or_default, length-take-le, take-map}
use Rattle.std.proofs.lemmas.List.Folds.{list_any_at, list_any_none}
use Rattle.std.proofs.lemmas.List.FromFn.{get_or-range_with_len, length-range_with_len}
use Rattle.std.proofs.lemmas.Slice.Eq.{bytes_eq-Decides}
use Rattle.toml_fields.specs.Ranges.{is_within}
use Rattle.toml_fields.proofs.Decided.{within_decided, at_most_decided}
use Rattle.part_file.specs.Bounds.{least_size, greatest_size, most_faces}
use Rattle.part_file.specs.declared.part.Side.{Side}
use Rattle.part_file.specs.declared.part.Side.TheVariants.{N, E, S, W}
use Rattle.part_file.specs.declared.part.Joint.{Joint}
use Rattle.part_file.specs.declared.part.Face.{Face}
use Rattle.part_file.specs.Part.{FaceData, PartData, face_data, no_face, face_at, joint_at, side_length, HasSizes, HasNewName, StandsWithin, IsJoined, IsPlaced, IsFaceOf, IsSheet, IsPart}
use Rattle.part_file.specs.Rules.{has_namesake, has_sizes, may_carry, stands_within, is_joint, is_placed, has_bad_size}
use Rattle.part_file.proofs.Joints.{list_any_map, no_clash, joint_of_joined}

-- an earlier face that has the name is found
same_name : (faces : List FaceData) (b f : ℕ) (name : List ℕ) → f < b → b < length faces → (face_at faces f).name ≡ name → list_any (λ face. bytes_eq face.name name) (take b faces) ≡ true
same_name faces b f name before within same =
    let room : f < length (take b faces) = rw (length-take-le b faces (omega arith)) before in
    let here : (get_or (take b faces) f no_face).name ≡ name = rw (get_or-take b faces f no_face before) same in
    list_any_at (λ face. bytes_eq face.name name) (take b faces) f no_face room ((bytes_eq-Decides (get_or (take b faces) f no_face).name name).1 here)

-- where no earlier face has the name, none is found
other_names : (faces : List FaceData) (b : ℕ) (name : List ℕ) → b < length faces → ((f : ℕ) → f < b → (face_at faces f).name ≢ name) → list_any (λ face. bytes_eq face.name name) (take b faces) ≡ false
other_names faces b name within differ =
    let count : length (take b faces) ≡ b = length-take-le b faces (omega arith) in
    list_any_none (λ face. bytes_eq face.name name) (take b faces) (λ f d inside.
    let before : f < b = omega arith in
    let here : get_or (take b faces) f d ≡ face_at faces f = get_or-take b faces f d before ∙ get_or_default faces f d no_face (omega arith) in
    false_from_ne_true (bytes_eq (get_or (take b faces) f d).name name) (λ t. differ f before (ap (λ (face : FaceData). face.name) (sym here) ∙ (bytes_eq-Decides (get_or (take b faces) f d).name name).0 t)))

-- a face's name is new exactly where no earlier face is found that has it
pub new_name_decided : (faces : List FaceData) (b : ℕ) → b < length faces → Decides (not (has_namesake faces b)) (HasNewName faces b)
new_name_decided faces b within = (
  λ t. record { differs = λ f before same. both_ways (has_namesake faces b) (not-true (has_namesake faces b) t) (same_name faces b f (face_at faces b).name before within same) },
  λ new. not_from_false (has_namesake faces b) (other_names faces b (face_at faces b).name within (λ f before same. new.differs f before same)),
)

pub has_new_name : (faces : List FaceData) (b : ℕ) (found : Bool) → b < length faces → found ≡ has_namesake faces b → IsTrue (not found) ↔ HasNewName faces b
has_new_name faces b found within is = rw is (new_name_decided faces b within)

-- the code's test, which looks at the faces themselves
pub namesake_is : (faces : List Face) (b : ℕ) (d : Face) (found : Bool) → b < length faces → found ≡ list_any (λ other. bytes_eq other.name.bytes (get_or faces b d).name.bytes) (take b faces) → found ≡ has_namesake (map face_data faces) b
namesake_is faces b d found within is =
    let name : List ℕ = (get_or faces b d).name.bytes in
    let named : (face_at (map face_data faces) b).name ≡ name = ap (λ (face : FaceData). face.name) (get_or-map face_data faces b d no_face within) in
    let seen : list_any (λ other. bytes_eq other.name name) (take b (map face_data faces)) ≡ list_any (λ other. bytes_eq other.name.bytes name) (take b faces) =
    rw (take-map face_data b faces) (list_any_map (λ other. bytes_eq other.name name) face_data (take b faces)) in
    is ∙ sym seen ∙ ap (λ (n : List ℕ). list_any (λ other. bytes_eq other.name n) (take b (map face_data faces))) (sym named)

-- tests that decide the rules of a face
sizes_decided : (face : FaceData) → Decides (has_sizes face) (HasSizes face)
sizes_decided face =
    let both = Decides-and (is_within least_size greatest_size face.width) (is_within least_size greatest_size face.length) (within_decided least_size greatest_size face.width) (within_decided least_size greatest_size face.length) in
    Decides-like (has_sizes face) (λ p. record { wide = p.0; long = p.1 }) (λ s. (s.wide, s.long)) both

may_decided : (on : ℕ) (side : Side) → Decides (may_carry on side) (side ≡ S → on ≡ 0)
may_decided on N = (λ t same. absurd (cc), λ rule. refl)
may_decided on E = (λ t same. absurd (cc), λ rule. refl)
may_decided on S = (λ t same. eqb-true on 0 t, λ rule. eq-eqb on 0 (rule refl))
may_decided on W = (λ t same. absurd (cc), λ rule. refl)

stands_decided : (parent : FaceData) (width : ℤ) (joint : Joint) → Decides (stands_within parent width joint) (StandsWithin parent width joint)
stands_decided parent width joint =
    let low : Bool = int_le (pos 0) joint.at in
    let high : Bool = int_le (joint.at +ℤ width) (side_length joint.side parent) in
    let ends = Decides-and low high (at_most_decided (pos 0) joint.at) (at_most_decided (joint.at +ℤ width) (side_length joint.side parent)) in
    let all = Decides-and (low && high) (may_carry joint.on joint.side) ends (may_decided joint.on joint.side) in
    Decides-like (stands_within parent width joint) (λ p. record { at_low = p.0.0; at_high = p.0.1; south = p.1 }) (λ s. ((s.at_low, s.at_high), s.south)) all

below_decided : (a b : ℕ) → Decides (nat_lt a b) (a < b)
below_decided a b = (λ t. ltb-true a b t, λ below. lt-ltb a b below)

joint_decided : (faces : List FaceData) (b : ℕ) (o : Option Joint) → joint_at faces b ≡ o → Decides (is_joint faces b o) (IsJoined faces b)
joint_decided faces b None is = (
  λ t. record { root = λ zero. is; joint = λ low. let first : b ≡ 0 = eqb-true b 0 t in absurd (omega arith) },
  λ joined. elim (cases_lt 0 b) [
    | inl low ↦ let found = joined.joint low in absurd (no_clash (joint_at faces b) found.0 is found.1.has)
    | inr none ↦ eq-eqb b 0 (omega arith)
  ],
)
joint_decided faces b (Some joint) is =
    let within : Bool = stands_within (face_at faces joint.on) (face_at faces b).width joint in
    let both = Decides-and (nat_lt joint.on b) within (below_decided joint.on b) (stands_decided (face_at faces joint.on) (face_at faces b).width joint) in
    Decides-like (nat_lt joint.on b && within)
    (λ p. let before : joint.on < b = p.0 in record { root = λ zero. absurd (omega arith); joint = λ low. (joint, record { has = is; earlier = p.0; within = p.1 }) })
    (λ joined. let rules = joint_of_joined faces b joint is joined in (rules.earlier, rules.within)) both

pub placed_decided : (faces : List FaceData) (b : ℕ) → Decides (is_placed faces b) (IsPlaced faces b)
placed_decided faces b =
    let both = Decides-and (has_sizes (face_at faces b)) (is_joint faces b (joint_at faces b)) (sizes_decided (face_at faces b)) (joint_decided faces b (joint_at faces b) refl) in
    Decides-like (is_placed faces b) (λ p. record { sizes = p.0; joined = p.1 }) (λ placed. (placed.sizes, placed.joined)) both

-- two tests that decide the same
same_test : {P : Type 0} (a b : Bool) → (IsTrue a ↔ P) → Decides b P → a ≡ b
same_test true true first second = refl
same_test true false first second = let clash : false ≡ true = second.1 (first.0 refl) in absurd (cc)
same_test false true first second = let clash : false ≡ true = first.1 (second.0 refl) in absurd (cc)
same_test false false first second = refl

pub bad_size_is : (faces : List FaceData) (b : ℕ) (placed : Bool) → (IsTrue placed ↔ IsPlaced faces b) → not placed ≡ has_bad_size faces b
bad_size_is faces b placed given = ap not (same_test placed (is_placed faces b) given (placed_decided faces b))

-- a fact of each number below n, of the answer to a test of them all
pub each_below : (P : ℕ → Type 0) (n : ℕ) (passed : Bool) → MatchBool passed (AllWithin P (range_with_len 0 n) 0 (length (range_with_len 0 n))) ((k : ℕ) × (k < length (range_with_len 0 n)) × HoldsAt (λ b. P b → ⊥) (range_with_len 0 n) k)
    → IsTrue passed ↔ ((b : ℕ) → b < n → P b)
each_below P n true all = (
  λ _ b within. subst P (get_or-range_with_len 0 n b 0 within ∙ zero-add b) (all b 0 (omega arith) (rw (length-range_with_len 0 n) within)),
  λ _. refl,
)
each_below P n false some = (
  λ t. absurd (false≢true t),
  λ all.
      let k : ℕ = some.0 in
      let within : k < n = rw (length-range_with_len 0 n) at some.1 in
      absurd (some.2 0 (subst P (sym (get_or-range_with_len 0 n k 0 within ∙ zero-add k)) (all k within))),
)

not_empty : (n : ℕ) (empty : Bool) → empty ≡ (n == 0) → not empty ≡ true → 0 < n
not_empty zero empty is given = absurd (both_ways empty (not-true empty given) is)
not_empty (suc n) empty is given = omega arith

-- where the sheet meets the rules and there is a face, the test of all faces decides
pub faces_decide : (p : PartData) (n : ℕ) (empty passed : Bool) → length p.faces ≡ n → n ≤ most_faces → IsSheet p → empty ≡ (n == 0) → not empty ≡ true → (IsTrue passed ↔ ((b : ℕ) → b < n → IsFaceOf p.faces b)) → IsTrue passed ↔ IsPart p
faces_decide p n empty passed count few sheet is given faces =
    let some : 0 < n = not_empty n empty is given in (
      λ t. record { sheet = sheet; some_face = omega arith; few_faces = omega arith; each_face = λ b within. faces.0 t b (omega arith) },
      λ fit. faces.1 (λ b within. fit.each_face b (omega arith)),
    )
