-- Walks over bends, and lists that hold no number twice.
use Rattle.std.proofs.Common.{◌≡◌, ◌≢◌, ℕ, zero, suc, ◌+◌, ◌<◌, ◌≤◌, List, [], ◌∷◌, ◌++◌, length, reverse, All, AllPairs, Some, refl, sym, subst, append_assoc, length-append, arith}
use Rattle.std.proofs.lemmas.List.{reverse-append}
use Rattle.part_file.specs.declared.part.Joint.{Joint}
use Rattle.std.proofs.lemmas.List.Kept.{AllPairs-cons}
use Rattle.part_file.specs.Part.{FaceData, PartData, IsPart, joint_at, IsWalk, stay, inward, onward, IsPath}

-- one walk after another
pub walk_on : (faces : List FaceData) (a c b : ℕ) (xs ys : List ℕ) → IsWalk faces a xs c → IsWalk faces c ys b → IsWalk faces a (xs ++ ys) b
walk_on faces a c b xs ys (stay f g same) second = subst (λ (from : ℕ). IsWalk faces from ys b) (sym same) second
walk_on faces a c b xs ys (inward f g joint bends has walk) second = inward f b joint (bends ++ ys) has (walk_on faces joint.on c b bends ys walk second)
walk_on faces a c b xs ys (onward f g joint bends has walk) second = onward f b joint (bends ++ ys) has (walk_on faces f c b bends ys walk second)

-- each number passes
abbrev pub Each : (ℕ → Type 0) → List ℕ → Type 0
Each P [] = Unit {0}
Each P (x ∷ xs) = P x × Each P xs

-- no number stands twice
abbrev pub Once : List ℕ → Type 0
Once [] = Unit {0}
Once (x ∷ xs) = Each (λ y. x ≢ y) xs × Once xs

pub each_with : (P : ℕ → Type 0) (v : ℕ) (xs ys : List ℕ) → P v → Each P (xs ++ ys) → Each P (xs ++ v ∷ ys)
each_with P v [] ys here rest = (here, rest)
each_with P v (x ∷ xs) ys here rest = (rest.0, each_with P v xs ys here rest.1)

pub each_also : (P Q : ℕ → Type 0) (xs : List ℕ) → ((x : ℕ) → P x → Q x) → Each P xs → Each Q xs
each_also P Q [] also passes = tt
each_also P Q (x ∷ xs) also passes = (also x passes.0, each_also P Q xs also passes.1)

pub once_with : (v : ℕ) (xs ys : List ℕ) → Each (λ x. v ≢ x) (xs ++ ys) → Once (xs ++ ys) → Once (xs ++ v ∷ ys)
once_with v [] ys new once = (new, once)
once_with v (x ∷ xs) ys new once =
    (each_with (λ y. x ≢ y) v xs ys (λ same. new.0 (sym same)) once.0, once_with v xs ys new.1 once.1)

all_of : (P : ℕ → Type 0) (xs : List ℕ) → Each P xs → All P xs
all_of P [] passes k d within = absurd (omega arith)
all_of P (x ∷ xs) passes zero d within = passes.0
all_of P (x ∷ xs) passes (suc k) d within = all_of P xs passes.1 k d (omega arith)

pub pairs_of : (xs : List ℕ) → Once xs → AllPairs (λ x y. x ≢ y) xs
pairs_of [] once = λ i j d lt within. absurd (omega arith)
pairs_of (x ∷ xs) once = AllPairs-cons (λ y z. y ≢ z) x xs (all_of (λ y. x ≢ y) xs once.0) (pairs_of xs once.1)

-- a walk goes on to the parent
step_inward : (faces : List FaceData) (a v : ℕ) (joint : Joint) (xs : List ℕ) → joint_at faces v ≡ Some joint → IsWalk faces a xs v → IsWalk faces a (xs ++ v ∷ []) joint.on
step_inward faces a v joint xs has walk = walk_on faces a v joint.on xs (v ∷ []) walk (inward v joint.on joint [] has (stay joint.on joint.on refl))

reversed_with : (v : ℕ) (os : List ℕ) → reverse (os ++ v ∷ []) ≡ v ∷ reverse os
reversed_with v os = reverse-append os (v ∷ [])

-- the faces that are reached from both ends of a path, and the bends taken so far: inwards from the one, and back from the other
pub record IsHalfway (faces : List FaceData) (a b from to : ℕ) (xs os : List ℕ) : Type 0 where
  pub from_within : from < length faces
  pub to_within : to < length faces
  pub from_room : (length xs + length os) + from ≤ 12
  pub to_room : (length xs + length os) + to ≤ 12
  pub walked : IsWalk faces a xs from
  pub left : IsWalk faces to (reverse os) b
  pub above : Each (λ x. (from < x) × (to < x)) (xs ++ reverse os)
  pub once : Once (xs ++ reverse os)

pub begins : (p : PartData) → IsPart p → (a b : ℕ) → a < length p.faces → b < length p.faces → IsHalfway p.faces a b a b [] []
begins p fit a b a_within b_within = record {
  from_within = a_within;
  to_within = b_within;
  from_room = omega (arith, fit.few_faces);
  to_room = omega (arith, fit.few_faces);
  walked = stay a a refl;
  left = stay b b refl;
  above = tt;
  once = tt;
}

-- both ends move no further out, and the new bend is above them
lower : (f t f2 t2 v : ℕ) (xs ys : List ℕ) → f2 ≤ f → t2 ≤ t → f2 < v → t2 < v → Each (λ x. (f < x) × (t < x)) (xs ++ ys) → Each (λ x. (f2 < x) × (t2 < x)) (xs ++ v ∷ ys)
lower f t f2 t2 v xs ys f_low t_low f_new t_new above =
    each_with (λ x. (f2 < x) × (t2 < x)) v xs ys (f_new, t_new) (each_also (λ x. (f < x) × (t < x)) (λ x. (f2 < x) × (t2 < x)) (xs ++ ys) (λ x p. (omega arith, omega arith)) above)

new_bend : (f t v : ℕ) (xs : List ℕ) → ((x : ℕ) → (f < x) × (t < x) → v < x) → Each (λ x. (f < x) × (t < x)) xs → Each (λ x. v ≢ x) xs
new_bend f t v xs below above = each_also (λ x. (f < x) × (t < x)) (λ x. v ≢ x) xs (λ x p same. let lt = below x p in omega arith) above

-- the greater end moves to its parent
pub moves_inward : (faces : List FaceData) (a b from to : ℕ) (joint : Joint) (xs os : List ℕ) → to < from → joint_at faces from ≡ Some joint → joint.on < from → IsHalfway faces a b from to xs os → IsHalfway faces a b joint.on to (xs ++ from ∷ []) os
moves_inward faces a b from to joint xs os lt has earlier half =
    let grown : (xs ++ from ∷ []) ++ reverse os ≡ xs ++ from ∷ reverse os = append_assoc xs (from ∷ []) (reverse os) in
    let more : length (xs ++ from ∷ []) ≡ length xs + 1 = length-append xs (from ∷ []) in
    record {
      from_within = omega arith;
      to_within = half.to_within;
      from_room = omega arith;
      to_room = omega arith;
      walked = step_inward faces a from joint xs has half.walked;
      left = half.left;
      above = rw grown (lower from to joint.on to from xs (reverse os) (omega arith) (omega arith) earlier lt half.above);
      once = rw grown (once_with from xs (reverse os) (new_bend from to from (xs ++ reverse os) (λ x p. p.0) half.above) half.once);
    }

pub moves_onward : (faces : List FaceData) (a b from to : ℕ) (joint : Joint) (xs os : List ℕ) → from < to → joint_at faces to ≡ Some joint → joint.on < to → IsHalfway faces a b from to xs os → IsHalfway faces a b from joint.on xs (os ++ to ∷ [])
moves_onward faces a b from to joint xs os lt has earlier half =
    let more : length (os ++ to ∷ []) ≡ length os + 1 = length-append os (to ∷ []) in
    let turned : reverse (os ++ to ∷ []) ≡ to ∷ reverse os = reversed_with to os in
    record {
      from_within = half.from_within;
      to_within = omega arith;
      from_room = omega arith;
      to_room = omega arith;
      walked = half.walked;
      left = rw turned (onward to b joint (reverse os) has half.left);
      above = rw turned (lower from to from joint.on to xs (reverse os) (omega arith) (omega arith) lt earlier half.above);
      once = rw turned (once_with to xs (reverse os) (new_bend from to to (xs ++ reverse os) (λ x p. p.1) half.above) half.once);
    }

-- where both ends meet, the bends are the path
pub meets : (faces : List FaceData) (a b from to : ℕ) (xs os : List ℕ) → from ≡ to → IsHalfway faces a b from to xs os → IsPath faces a (xs ++ reverse os) b
meets faces a b from to xs os same half = record {
  walk = walk_on faces a from b xs (reverse os) half.walked (rw same half.left);
  once = pairs_of (xs ++ reverse os) half.once;
}
