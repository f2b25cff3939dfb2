-- The orders of keys and of reasons are strict and total.
use Rattle.std.proofs.Common.{◌≡◌, inl, inr, ℕ, suc, ◌==◌, Bool, true, false, ◌&&◌, ◌||◌, List, [], ◌∷◌, length, refl, sym, ◌∙◌, ap, arith, eq-eqb}
use Rattle.std.specs.Prelude.{◌⊎◌, nat_lt, if◌then◌else◌}
use Rattle.std.proofs.lemmas.Bool.{cases_lt, ltb-true, lt-ltb, or_right, and_parts, eqb-true}
use Rattle.brake_base.specs.declared.plane.Quarter.{Quarter}
use Rattle.brake_base.specs.declared.plane.Quarter.TheVariants.{Q1, Q2, Q3, Q4}
use Rattle.brake_base.specs.declared.stroke.Half.{Half}
use Rattle.brake_base.specs.declared.stroke.Half.TheVariants.{Back, Front}
use Rattle.brake_base.specs.declared.stroke.Key.{Key}
use Rattle.brake_base.specs.declared.reason.Reason.{Reason}
use Rattle.brake_base.specs.declared.reason.Reason.TheVariants.{Cover, Rest, Frame, Upper, Nose, Lower, SelfHit, NoGauge, Load}
use Rattle.brake_base.specs.Order.{IsBefore}
use Rattle.brake_base.specs.Keys.{key_numbers, KeyIsBefore}
use Rattle.brake_base.specs.Reasons.{reason_place, ReasonIsBefore}
use Rattle.cert_merge.specs.Entries.{stands_before}

-- the test is the order
pub told : (xs ys : List ℕ) → stands_before xs ys ≡ true → IsBefore xs ys
told [] ys e = absurd (cc)
told (x ∷ xs) [] e = absurd (cc)
told (x ∷ xs) (y ∷ ys) e = by_head (nat_lt x y) (told xs ys) refl e
  where
    by_head : (less : Bool) → (stands_before xs ys ≡ true → IsBefore xs ys) → nat_lt x y ≡ less → (less || (x == y && stands_before xs ys)) ≡ true → IsBefore (x ∷ xs) (y ∷ ys)
    by_head true more is e = inl (ltb-true x y is)
    by_head false more is e = let parts = and_parts (x == y) (stands_before xs ys) e in inr (eqb-true x y parts.0, more parts.1)

pub tested : (xs ys : List ℕ) → IsBefore xs ys → stands_before xs ys ≡ true
tested [] ys before = absurd before
tested (x ∷ xs) [] before = absurd before
tested (x ∷ xs) (y ∷ ys) (inl less) = rw (lt-ltb x y less) refl
tested (x ∷ xs) (y ∷ ys) (inr later) = or_right (nat_lt x y) (x == y && stands_before xs ys) (rw (eq-eqb x y later.0, tested xs ys later.1) refl)

pub never : (xs : List ℕ) → IsBefore xs xs → ⊥
never [] before = before
never (x ∷ xs) (inl less) = omega (arith, less)
never (x ∷ xs) (inr later) = never xs later.1

pub later : (xs ys zs : List ℕ) → IsBefore xs ys → IsBefore ys zs → IsBefore xs zs
later [] ys zs first second = absurd first
later (x ∷ xs) [] zs first second = absurd first
later (x ∷ xs) (y ∷ ys) [] first second = absurd second
later (x ∷ xs) (y ∷ ys) (z ∷ zs) (inl less) (inl more) = inl (omega (arith, less, more))
later (x ∷ xs) (y ∷ ys) (z ∷ zs) (inl less) (inr next) = let same = next.0 in inl (omega (arith, less, same))
later (x ∷ xs) (y ∷ ys) (z ∷ zs) (inr next) (inl more) = let same = next.0 in inl (omega (arith, more, same))
later (x ∷ xs) (y ∷ ys) (z ∷ zs) (inr next) (inr more) = inr (next.0 ∙ more.0, later xs ys zs next.1 more.1)

shorter : (x y : ℕ) (xs ys : List ℕ) → length (x ∷ xs) ≡ length (y ∷ ys) → length xs ≡ length ys
shorter x y xs ys same = let e : suc (length xs) ≡ suc (length ys) = same in omega (arith, e)

-- of two lists of as many numbers one is before the other, or they are one
pub either : (xs ys : List ℕ) → length xs ≡ length ys → IsBefore xs ys ⊎ ((xs ≡ ys) ⊎ IsBefore ys xs)
either [] [] long = inr (inl refl)
either [] (y ∷ ys) long = absurd (cc)
either (x ∷ xs) [] long = absurd (cc)
either (x ∷ xs) (y ∷ ys) long = elim (cases_lt x y) [
  | inl less ↦ inl (inl less)
  | inr rest ↦ elim (cases_lt y x) [
    | inl more ↦ inr (inr (inl more))
    | inr again ↦ let same : x ≡ y = omega (arith, rest, again) in by_tail same (either xs ys (shorter x y xs ys long))
  ]
]
  where
    by_tail : x ≡ y → IsBefore xs ys ⊎ ((xs ≡ ys) ⊎ IsBefore ys xs) → IsBefore (x ∷ xs) (y ∷ ys) ⊎ (((x ∷ xs) ≡ (y ∷ ys)) ⊎ IsBefore (y ∷ ys) (x ∷ xs))
    by_tail same (inl before) = inl (inr (same, before))
    by_tail same (inr (inl equal)) = inr (inl (λ i. same i ∷ equal i))
    by_tail same (inr (inr after)) = inr (inr (inr (sym same, after)))

half_from : ℕ → Half
half_from n = if n == 0 then Back else Front

quarter_from : ℕ → Quarter
quarter_from n = if n == 1 then Q1 else if n == 2 then Q2 else if n == 3 then Q3 else Q4

reason_from : ℕ → ℕ → ℕ → ℕ → Reason
reason_from k a b c = if k == 1 then Cover
    else if k == 2 then Rest (half_from a)
    else if k == 3 then Frame a
    else if k == 4 then Upper a (quarter_from b) c
    else if k == 5 then Nose a (quarter_from b) c
    else if k == 6 then Lower a (quarter_from b) c
    else if k == 7 then SelfHit a (quarter_from b) c
    else if k == 8 then Load
    else NoGauge

at_place : List ℕ → Reason
at_place (k ∷ a ∷ b ∷ c ∷ rest) = reason_from k a b c
at_place _ = Cover

placed : (reason : Reason) → at_place (reason_place reason) ≡ reason
unfolding at_place reason_from half_from quarter_from
placed Cover = refl
placed (Rest Back) = refl
placed (Rest Front) = refl
placed (Frame box) = refl
placed (Upper box Q1 index) = refl
placed (Upper box Q2 index) = refl
placed (Upper box Q3 index) = refl
placed (Upper box Q4 index) = refl
placed (Nose box Q1 stage) = refl
placed (Nose box Q2 stage) = refl
placed (Nose box Q3 stage) = refl
placed (Nose box Q4 stage) = refl
placed (Lower box Q1 index) = refl
placed (Lower box Q2 index) = refl
placed (Lower box Q3 index) = refl
placed (Lower box Q4 index) = refl
placed (SelfHit box Q1 other) = refl
placed (SelfHit box Q2 other) = refl
placed (SelfHit box Q3 other) = refl
placed (SelfHit box Q4 other) = refl
placed NoGauge = refl
placed Load = refl

four : (reason : Reason) → length (reason_place reason) ≡ 4
four Cover = refl
four (Rest half) = refl
four (Frame box) = refl
four (Upper box quarter index) = refl
four (Nose box quarter stage) = refl
four (Lower box quarter index) = refl
four (SelfHit box quarter other) = refl
four NoGauge = refl
four Load = refl

-- of two reasons one is before the other, or they are one
pub reason_either : (a b : Reason) → ReasonIsBefore a b ⊎ ((a ≡ b) ⊎ ReasonIsBefore b a)
reason_either a b = elim (either (reason_place a) (reason_place b) (four a ∙ sym (four b))) [
  | inl before ↦ inl before
  | inr (inl same) ↦ inr (inl (sym (placed a) ∙ (ap at_place same ∙ placed b)))
  | inr (inr after) ↦ inr (inr after)
]

-- of two keys too
pub key_either : (a b : Key) → KeyIsBefore a b ⊎ ((a ≡ b) ⊎ KeyIsBefore b a)
key_either a b = elim (either (key_numbers a) (key_numbers b) refl) [
  | inl before ↦ inl before
  | inr (inl same) ↦ inr (inl (same_key same))
  | inr (inr after) ↦ inr (inr after)
]
  where
    same_key : key_numbers a ≡ key_numbers b → a ≡ b
    same_key same =
        let mask : a.mask.0 ≡ b.mask.0 = cc in
        let attitude : a.attitude ≡ b.attitude = cc in
        let stage : a.stage ≡ b.stage = cc in
        λ i. record { mask = record { 0 = mask i }; attitude = attitude i; stage = stage i }
