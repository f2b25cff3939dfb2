-- The places of a set with one action more, and the numbers of places.
use Rattle.std.proofs.Common.{◌≡◌, ◌≢◌, ℕ, zero, suc, ◌+◌, ◌-◌, ◌*◌, ◌/◌, ◌%◌, ◌<◌, ◌≤◌, Bool, true, false, ◌&&◌, ◌||◌, not, ◌==◌, List, [], ◌∷◌, ◌++◌, filter, refl, ap, sym, subst, ◌∙◌, arith, inl, inr, cond, nat_lt, lt-ltb, All}
use Rattle.std.specs.List.{list_any, Contains}
use Rattle.std.proofs.Math.Nat.{mul-le-mul_right}
use Rattle.std.proofs.lemmas.Bool.{cases_eq}
use Rattle.std.proofs.lemmas.Bool.Decides.{nat_tests}
use Rattle.std.proofs.lemmas.Grind.{common_steps}
use Rattle.std.proofs.lemmas.List.{append-nil}
use Rattle.std.proofs.lemmas.List.Elements.{filter-append, All-contains, Contains-append_left, Contains-append_right, Contains-push}
use Rattle.std.proofs.lemmas.List.Folds.{list_any-append}
use Rattle.brake_base.specs.declared.stroke.Action.{Action}
use Rattle.brake_base.specs.Actions.{IsActionAmong, back_number, number_of_action}
use Rattle.stage_lanes.specs.declared.actions.ActionSet.{ActionSet}
use Rattle.stage_lanes.specs.ActionSets.{place_of, has_place, ArePlaces, IsNone, numbers_below, places_of}
use Rattle.plan_lines.specs.NoteLines.{number_at}
use Rattle.plan_lines.proofs.ActionNumbers.{number_below}

pub skip : (f : ℕ → Bool) (k : ℕ) → f k ≡ false → filter f (k ∷ []) ≡ []
skip f k fail = ap (λ (t : Bool). cond t (k ∷ []) []) fail

pub keep : (f : ℕ → Bool) (k : ℕ) → f k ≡ true → filter f (k ∷ []) ≡ k ∷ []
keep f k pass = ap (λ (t : Bool). cond t (k ∷ []) []) pass

-- one number more
pub one_more : (f : ℕ → Bool) (n : ℕ) → filter f (numbers_below (suc n)) ≡ filter f (numbers_below n) ++ filter f (n ∷ [])
one_more f n = filter-append f (numbers_below n) (n ∷ [])

-- numbers that all fail
none_from : (f : ℕ → Bool) (m n : ℕ) → m ≤ n → ((k : ℕ) → m ≤ k → k < n → f k ≡ false) → filter f (numbers_below n) ≡ filter f (numbers_below m)
none_from f m zero le fail = let none : 0 ≡ m = omega arith in ap (λ (k : ℕ). filter f (numbers_below k)) none
none_from f m (suc n) le fail = elim (cases_eq m (suc n)) [
  | inl whole ↦ ap (λ (k : ℕ). filter f (numbers_below k)) (sym whole)
  | inr more ↦
      one_more f n ∙ ap (λ (ks : List ℕ). filter f (numbers_below n) ++ ks) (skip f n (fail n (omega (arith, more)) (omega arith)))
      ∙ append-nil (filter f (numbers_below n)) ∙ none_from f m n (omega (arith, more)) (λ k from lt. fail k from (omega (arith, lt)))
]

-- numbers at which two tests agree
same_below : (f g : ℕ → Bool) (n : ℕ) → ((k : ℕ) → k < n → f k ≡ g k) → filter f (numbers_below n) ≡ filter g (numbers_below n)
same_below f g zero same = refl
same_below f g (suc n) same =
    one_more f n ∙ (λ i. same_below f g n (λ k lt. same k (omega (arith, lt))) i ++ cond (same n (omega arith) i) (n ∷ []) []) ∙ sym (one_more g n)

-- the first number that passes a test, and those that pass the test without it
first_below : (f g : ℕ → Bool) (p n : ℕ) → f p ≡ true → ((k : ℕ) → k < p → f k ≡ false) → ((k : ℕ) → k ≤ p → g k ≡ false)
    → ((k : ℕ) → p < k → k < n → f k ≡ g k) → p < n → filter f (numbers_below n) ≡ p ∷ filter g (numbers_below n)
first_below f g p zero pass none none_too same below = absurd (omega (arith, below))
first_below f g p (suc n) pass none none_too same below = elim (cases_eq n p) [
  | inl here ↦
      ap (λ (k : ℕ). filter f (numbers_below (suc k))) here ∙ one_more f p ∙ (λ i. none_from f 0 p (omega arith) (λ k from lt. none k lt) i ++ keep f p pass i)
      ∙ ap (λ (ks : List ℕ). p ∷ ks) (sym (none_from g 0 (suc n) (omega arith) (λ k from lt. none_too k (omega (arith, lt, here)))))
  | inr apart ↦
      one_more f n ∙ (λ i. first_below f g p n pass none none_too (λ k above lt. same k above (omega (arith, lt))) (omega (arith, below, apart)) i ++ cond (same n (omega (arith, below, apart)) (omega arith) i) (n ∷ []) [])
      ∙ ap (λ (ks : List ℕ). p ∷ ks) (sym (one_more g n))
]

-- one number more, above all others that pass
last_below : (f g : ℕ → Bool) (p n : ℕ) → p < n → ((k : ℕ) → k < n → g k ≡ (f k || (k == p))) → ((k : ℕ) → p ≤ k → k < n → f k ≡ false) → filter g (numbers_below n) ≡ filter f (numbers_below n) ++ p ∷ []
last_below f g p n less are none =
    none_from g (suc p) n less (λ k from lt. are k lt ∙ (λ i. none k (omega (arith, from)) lt i || apart k p (omega (arith, from)) i))
    ∙ one_more g p
    ∙ (λ i. same_below g f p (λ k lt. are k (omega (arith, lt, less)) ∙ ap (λ (t : Bool). f k || t) (apart k p (omega (arith, lt))) ∙ or_false (f k)) i ++ keep g p (are p less ∙ (λ j. none p (omega arith) less j || here p j)) i)
    ∙ ap (λ (ks : List ℕ). ks ++ p ∷ []) (sym (none_from f p n (omega (arith, less)) none))
  where
    apart : (m n : ℕ) → m ≢ n → (m == n) ≡ false
    apart m n ne = grind (arith, ne)

    here : (m : ℕ) → (m == m) ≡ true
    here m = grind arith

    or_false : (t : Bool) → (t || false) ≡ t
    or_false true = refl
    or_false false = refl

-- a number that passes is there
there : (f : ℕ → Bool) (k n : ℕ) → k < n → f k ≡ true → Contains (filter f (numbers_below n)) k
there f k zero less is = absurd (omega arith)
there f k (suc n) less is = subst (λ (ks : List ℕ). Contains ks k) (sym (one_more f n)) (elim (cases_eq k n) [
  | inl here ↦ Contains-append_right (filter f (numbers_below n)) (filter f (n ∷ [])) k (subst (λ (ks : List ℕ). Contains ks k) (sym (keep f n (ap f (sym here) ∙ is))) (subst (λ (m : ℕ). Contains (m ∷ []) k) here (Contains-push [] k)))
  | inr apart ↦ Contains-append_left (filter f (numbers_below n)) (filter f (n ∷ [])) k (there f k n (omega (arith, less, apart)) is)
])

-- a test that one number alone passes finds it where it is in the list
any_below : (test f : ℕ → Bool) (q n : ℕ) → ((k : ℕ) → k < n → f k ≡ true → test k ≡ (k == q)) → list_any test (filter f (numbers_below n)) ≡ (f q && nat_lt q n)
any_below test f q zero one = grind (arith, nat_tests)
any_below test f q (suc n) one =
    ap (list_any test) (one_more f n) ∙ list_any-append test (filter f (numbers_below n)) (filter f (n ∷ []))
    ∙ (λ i. any_below test f q n (λ k lt is. one k (omega (arith, lt)) is) i || last (f n) (λ is. one n (omega arith) is) i)
    ∙ either (f n) (f q) (λ here. ap f here)
  where
    last : (b : Bool) → (b ≡ true → test n ≡ (n == q)) → list_any test (cond b (n ∷ []) []) ≡ (b && (n == q))
    last true is = let same = is refl in grind (arith, nat_tests)
    last false is = refl

    either : (b c : Bool) → (n ≡ q → b ≡ c) → ((c && nat_lt q n) || (b && (n == q))) ≡ (c && nat_lt q (suc n))
    either true true same = grind (arith, nat_tests)
    either true false same = grind (arith, nat_tests, same)
    either false true same = grind (arith, nat_tests, same)
    either false false same = refl

-- the empty set has no place
pub no_places : (set : ActionSet) → IsNone set → places_of set ≡ []
unfolding places_of
no_places set none = none_from (has_place set) 0 192 (omega arith) (λ place from within. none place within)

-- a set's places are that of its first action and then those of the set without it
pub first_place : (set rest : ActionSet) (place : ℕ) → place < 192 → has_place set place ≡ true → ((other : ℕ) → other < place → has_place set other ≡ false)
    → ArePlaces rest (λ other. has_place set other && not (other == place)) → places_of set ≡ place ∷ places_of rest
unfolding places_of
first_place set rest place within is none left =
    first_below (has_place set) (has_place rest) place 192 is none (λ other le. left other (omega (arith, le, within)) ∙ gone (has_place set other) other place le (λ lt. none other lt))
    (λ other above lt. kept (has_place set other) other place above ∙ sym (left other lt)) within
  where
    gone : (t : Bool) (m n : ℕ) → m ≤ n → (m < n → t ≡ false) → (t && not (m == n)) ≡ false
    gone true m n le none = grind (arith, nat_tests, none)
    gone false m n le none = refl

    kept : (t : Bool) (m n : ℕ) → n < m → t ≡ (t && not (m == n))
    kept true m n above = grind (arith, nat_tests)
    kept false m n above = refl

-- one action more, of a place above all others
pub last_place : (old new : ActionSet) (place : ℕ) → place < 192 → ArePlaces new (λ other. has_place old other || other == place) → ((other : ℕ) → place ≤ other → other < 192 → has_place old other ≡ false)
    → places_of new ≡ places_of old ++ place ∷ []
unfolding places_of
last_place old new place within are none = last_below (has_place old) (has_place new) place 192 within are none

-- ---- the numbers of places
pub place_below : (action : Action) → IsActionAmong 12 8 action → place_of action < 192
place_below action among = number_below 12 8 action among.first among.last among.stage

-- an action's number by its place
pub number_of_place : (stages : ℕ) (action : Action) → action.stage < 8 → number_at stages (place_of action) ≡ number_of_action stages action
unfolding number_of_action
number_of_place stages action stage =
    let quotient : (((action.bend - 1) * 2 + back_number action.back) * 8 + action.stage) / 8 ≡ (action.bend - 1) * 2 + back_number action.back = omega (arith, stage) in
    let rest : (((action.bend - 1) * 2 + back_number action.back) * 8 + action.stage) % 8 ≡ action.stage = omega (arith, stage) in
    λ i. quotient i * stages + rest i

pub stage_of_place : (action : Action) → action.stage < 8 → place_of action % 8 ≡ action.stage
unfolding number_of_action
stage_of_place action stage = omega (arith, stage)

-- numbers have the order of places
pub number_up : (stages place other : ℕ) → place ≤ other → place % 8 < stages → number_at stages place ≤ number_at stages other
number_up stages place other le small = up (place / 8) (place % 8) (other / 8) (other % 8) stages small (omega arith) (λ same. omega (arith, same))
  where
    up : (a b c d s : ℕ) → b < s → a ≤ c → (a ≡ c → b ≤ d) → a * s + b ≤ c * s + d
    up a b c d s small le same = elim (cases_eq a c) [
      | inl e ↦ let one : a * s ≡ c * s = ap (λ (n : ℕ). n * s) e in let rest = same e in omega (arith, one, rest)
      | inr lt ↦
          let more : (a + 1) * s ≤ c * s = mul-le-mul_right s (omega (arith, lt, le)) in
          let split : (a + 1) * s ≡ a * s + s = grind (arith, common_steps) in
          omega (arith, more, split, small)
    ]

-- ---- what holds of the places of a set
pub at_place : (P : ℕ → Type 0) (set : ActionSet) → All P (places_of set) → (place : ℕ) → place < 192 → has_place set place ≡ true → P place
unfolding places_of
at_place P set all place within is = All-contains P (filter (has_place set) (numbers_below 192)) place all (there (has_place set) place 192 within is)

pub any_place : (test : ℕ → Bool) (set : ActionSet) (q : ℕ) → q < 192 → ((place : ℕ) → place < 192 → has_place set place ≡ true → test place ≡ (place == q)) → list_any test (places_of set) ≡ has_place set q
unfolding places_of
any_place test set q within one = any_below test (has_place set) q 192 one ∙ ap (λ (b : Bool). has_place set q && b) (lt-ltb q 192 within) ∙ and_true (has_place set q)
  where
    and_true : (b : Bool) → (b && true) ≡ b
    and_true true = refl
    and_true false = refl
