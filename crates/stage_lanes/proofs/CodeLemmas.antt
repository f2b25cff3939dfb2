-- Codes keep the order of reasons, and give them back.
use Rattle.std.proofs.Common.{◌≡◌, ℕ, zero, suc, ◌+◌, ◌-◌, ◌*◌, ◌/◌, ◌%◌, ◌<◌, ◌≤◌, ◌⊎◌, ◌↔◌, [], ◌∷◌, refl, ap, sym, ◌∙◌, arith, inl, inr}
use Rattle.std.proofs.lemmas.Bool.{cases_lt}
use Rattle.brake_base.specs.declared.plane.Quarter.{Quarter}
use Rattle.brake_base.specs.declared.plane.Quarter.TheVariants.{Q1, Q2, Q3, Q4}
use Rattle.brake_base.specs.declared.stroke.Half.{Half}
use Rattle.brake_base.specs.declared.stroke.Half.TheVariants.{Back, Front}
use Rattle.brake_base.specs.declared.reason.Reason.{Reason}
use Rattle.brake_base.specs.declared.reason.Reason.TheVariants.{Cover, Rest, Frame, Upper, Nose, Lower, SelfHit, NoGauge, Load}
use Rattle.brake_base.specs.Order.{IsBefore}
use Rattle.brake_base.specs.Reasons.{reason_place, quarter_number, half_place, ReasonIsBefore}
use Rattle.stage_lanes.specs.Codes.{code_at, code_of, IsCoded, half_at}

-- the numbers of a reason: the kinds from 4 to 7 have a quarter, and the others have none
record AreNumbers (rank body quarter index : ℕ) : Type 0 where
  first : 1 ≤ rank
  last : rank ≤ 9
  of_body : body < 25
  of_index : index < 64
  of_quarter : ((1 ≤ quarter) × (quarter ≤ 4) × (4 ≤ rank) × (rank ≤ 7)) ⊎ ((quarter ≡ 0) × ((rank < 4) ⊎ (7 < rank)))

quarter_low : (q : Quarter) → (1 ≤ quarter_number q) × (quarter_number q ≤ 4)
quarter_low Q1 = (omega arith, omega arith)
quarter_low Q2 = (omega arith, omega arith)
quarter_low Q3 = (omega arith, omega arith)
quarter_low Q4 = (omega arith, omega arith)

half_low : (h : Half) → half_place h < 25
half_low Back = omega arith
half_low Front = omega arith

abbrev Numbered : Reason → Type 0
Numbered reason = (rank body quarter index : ℕ) × (reason_place reason ≡ rank ∷ body ∷ quarter ∷ index ∷ []) × AreNumbers rank body quarter index

numbered : (reason : Reason) → IsCoded reason → Numbered reason
numbered Cover h = (1, 0, 0, 0, refl, record { first = omega arith; last = omega arith; of_body = omega arith; of_index = omega arith; of_quarter = inr (refl, inl (omega arith)) })
numbered (Rest half) h = (2, half_place half, 0, 0, refl, record { first = omega arith; last = omega arith; of_body = half_low half; of_index = omega arith; of_quarter = inr (refl, inl (omega arith)) })
numbered (Frame b) h = (3, b, 0, 0, refl, record { first = omega arith; last = omega arith; of_body = h.body; of_index = omega arith; of_quarter = inr (refl, inl (omega arith)) })
numbered (Upper b q i) h = (4, b, quarter_number q, i, refl, record { first = omega arith; last = omega arith; of_body = h.body; of_index = h.index; of_quarter = inl ((quarter_low q).0, (quarter_low q).1, omega arith, omega arith) })
numbered (Nose b q i) h = (5, b, quarter_number q, i, refl, record { first = omega arith; last = omega arith; of_body = h.body; of_index = h.index; of_quarter = inl ((quarter_low q).0, (quarter_low q).1, omega arith, omega arith) })
numbered (Lower b q i) h = (6, b, quarter_number q, i, refl, record { first = omega arith; last = omega arith; of_body = h.body; of_index = h.index; of_quarter = inl ((quarter_low q).0, (quarter_low q).1, omega arith, omega arith) })
numbered (SelfHit b q i) h = (7, b, quarter_number q, i, refl, record { first = omega arith; last = omega arith; of_body = h.body; of_index = h.index; of_quarter = inl ((quarter_low q).0, (quarter_low q).1, omega arith, omega arith) })
numbered Load h = (8, 0, 0, 0, refl, record { first = omega arith; last = omega arith; of_body = omega arith; of_index = omega arith; of_quarter = inr (refl, inr (omega arith)) })
numbered NoGauge h = (9, 0, 0, 0, refl, record { first = omega arith; last = omega arith; of_body = omega arith; of_index = omega arith; of_quarter = inr (refl, inr (omega arith)) })

abbrev number : ℕ → ℕ → ℕ → ℕ → ℕ
number k b q i = (k - 1) * 6400 + b * 256 + (q - 1) * 64 + i

before_code : (k b q i l c r j : ℕ) → AreNumbers k b q i → AreNumbers l c r j → IsBefore (k ∷ b ∷ q ∷ i ∷ []) (l ∷ c ∷ r ∷ j ∷ []) → number k b q i < number l c r j
before_code k b q i l c r j x y (inl h) = omega (arith, h, x.first, x.of_body, x.of_index, x.of_quarter, y.first)
before_code k b q i l c r j x y (inr (e, inl h)) = omega (arith, e, h, x.of_index, x.of_quarter)
before_code k b q i l c r j x y (inr (e, inr (f, inl h))) = omega (arith, e, f, h, x.of_index, x.of_quarter, y.of_quarter)
before_code k b q i l c r j x y (inr (e, inr (f, inr (g, inl h)))) = omega (arith, e, f, g, h)
before_code k b q i l c r j x y (inr (e, inr (f, inr (g, inr (h, never))))) = absurd never

same_number : (k b q i l c r j : ℕ) → AreNumbers k b q i → AreNumbers l c r j → number k b q i ≡ number l c r j → (k ≡ l) × (b ≡ c) × (q ≡ r) × (i ≡ j)
same_number k b q i l c r j x y e =
    let ranks : k ≡ l = omega (arith, e, x.first, x.of_body, x.of_index, x.of_quarter, y.first, y.of_body, y.of_index, y.of_quarter) in
    let bodies : b ≡ c = omega (arith, e, ranks, x.of_index, x.of_quarter, y.of_index, y.of_quarter) in
    let indices : i ≡ j = omega (arith, e, ranks, bodies, x.of_index, y.of_index) in
    let quarters : q ≡ r = omega (arith, e, ranks, bodies, indices, x.of_quarter, y.of_quarter) in
    (ranks, bodies, quarters, indices)

code_before : (k b q i l c r j : ℕ) → AreNumbers k b q i → AreNumbers l c r j → number k b q i < number l c r j → IsBefore (k ∷ b ∷ q ∷ i ∷ []) (l ∷ c ∷ r ∷ j ∷ [])
code_before k b q i l c r j x y h =
    elim (cases_lt k l) [
      | inl low ↦ inl low
      | inr high ↦
          let e : k ≡ l = omega (arith, h, high, x.first, y.first, x.of_body, y.of_body, x.of_index, y.of_index, x.of_quarter, y.of_quarter) in
          inr (
            e,
            elim (cases_lt b c) [
              | inl low ↦ inl low
              | inr up ↦
                  let f : b ≡ c = omega (arith, h, e, up, x.of_index, y.of_index, x.of_quarter, y.of_quarter) in
                  inr (
                    f,
                    elim (cases_lt q r) [
                      | inl low ↦ inl low
                      | inr top ↦
                          let g : q ≡ r = omega (arith, h, e, f, top, x.of_index, y.of_index, x.of_quarter, y.of_quarter) in
                          inr (g, inl (omega (arith, h, e, f, g)))
                    ],
                  )
            ],
          )
    ]

code_is : (reason : Reason) (k b q i : ℕ) → reason_place reason ≡ k ∷ b ∷ q ∷ i ∷ [] → code_of reason ≡ number k b q i
unfolding code_at
code_is reason k b q i e = ap code_at e

-- ---- the order of codes is that of reasons
pub order_is : (first second : Reason) → IsCoded first → IsCoded second → ReasonIsBefore first second ↔ (code_of first < code_of second)
order_is first second x y =
    let m = numbered first x in
    let n = numbered second y in
    rw (code_is first m.0 m.1 m.2 m.3 m.4, code_is second n.0 n.1 n.2 n.3 n.4, m.4, n.4)
    (before_code m.0 m.1 m.2 m.3 n.0 n.1 n.2 n.3 m.5 n.5, code_before m.0 m.1 m.2 m.3 n.0 n.1 n.2 n.3 m.5 n.5)

abbrev quarter_at : ℕ → Quarter
quarter_at zero = Q1
quarter_at (suc zero) = Q1
quarter_at (suc (suc zero)) = Q2
quarter_at (suc (suc (suc zero))) = Q3
quarter_at (suc (suc (suc (suc n)))) = Q4

quarter_back : (q : Quarter) → quarter_at (quarter_number q) ≡ q
quarter_back Q1 = refl
quarter_back Q2 = refl
quarter_back Q3 = refl
quarter_back Q4 = refl

same_quarter : (q r : Quarter) → quarter_number q ≡ quarter_number r → q ≡ r
same_quarter q r e = sym (quarter_back q) ∙ ap quarter_at e ∙ quarter_back r

half_back : (h : Half) → half_at (half_place h) ≡ h
half_back Back = refl
half_back Front = refl

-- the reason of a rank, counted from 0, with these arguments
abbrev pub reason_at : ℕ → ℕ → Quarter → ℕ → Reason
reason_at zero b q i = Cover
reason_at (suc zero) b q i = Rest (half_at b)
reason_at (suc (suc zero)) b q i = Frame b
reason_at (suc (suc (suc zero))) b q i = Upper b q i
reason_at (suc (suc (suc (suc zero)))) b q i = Nose b q i
reason_at (suc (suc (suc (suc (suc zero))))) b q i = Lower b q i
reason_at (suc (suc (suc (suc (suc (suc zero)))))) b q i = SelfHit b q i
reason_at (suc (suc (suc (suc (suc (suc (suc zero))))))) b q i = Load
reason_at (suc (suc (suc (suc (suc (suc (suc (suc k)))))))) b q i = NoGauge

met : (reason : Reason) (k b i : ℕ) (r : Quarter) → b < 25 → i < 64 → code_of reason ≡ number (suc k) b (quarter_number r) i
    → (code rank : ℕ) (q : Quarter) → code / 6400 ≡ rank → quarter_number q ≡ code % 256 / 64 + 1 → code_of reason ≡ code
    → (rank ≡ k) × (code % 6400 / 256 ≡ b) × (q ≡ r) × (code % 64 ≡ i)
met reason k b i r low few e code rank q s t same =
    let whole : code ≡ k * 6400 + b * 256 + (quarter_number r - 1) * 64 + i = omega (arith, e, same) in
    let range = quarter_low r in
    (omega (arith, whole, s, range.0, range.1, low, few), omega (arith, whole, range.0, range.1, low, few), same_quarter q r (omega (arith, whole, t, range.0, range.1, low, few)), omega (arith, whole, range.0, range.1, low, few))

pub given_back : (code rank : ℕ) (q : Quarter) → code / 6400 ≡ rank → quarter_number q ≡ code % 256 / 64 + 1 → (reason : Reason) → IsCoded reason → code_of reason ≡ code → reason_at rank (code % 6400 / 256) q (code % 64) ≡ reason
unfolding code_at
given_back code rank q s t Cover h e = let r : rank ≡ 0 = omega (arith, s, e) in rw r refl
given_back code rank q s t (Rest half) h e =
    let low = half_low half in
    let r : rank ≡ 1 = omega (arith, s, e, low) in
    let b : code % 6400 / 256 ≡ half_place half = omega (arith, e, low) in
    rw (r, b) (ap Rest (half_back half))
given_back code rank q s t (Frame body) h e =
    let r : rank ≡ 2 = omega (arith, s, e, h.body) in
    let b : code % 6400 / 256 ≡ body = omega (arith, e, h.body) in
    rw (r, b) refl
given_back code rank q s t (Upper body r i) h e =
    let m = met (Upper body r i) 3 body i r h.body h.index refl code rank q s t e in
    λ k. reason_at (m.0 k) (m.1 k) (m.2 k) (m.3 k)
given_back code rank q s t (Nose body r i) h e =
    let m = met (Nose body r i) 4 body i r h.body h.index refl code rank q s t e in
    λ k. reason_at (m.0 k) (m.1 k) (m.2 k) (m.3 k)
given_back code rank q s t (Lower body r i) h e =
    let m = met (Lower body r i) 5 body i r h.body h.index refl code rank q s t e in
    λ k. reason_at (m.0 k) (m.1 k) (m.2 k) (m.3 k)
given_back code rank q s t (SelfHit body r i) h e =
    let m = met (SelfHit body r i) 6 body i r h.body h.index refl code rank q s t e in
    λ k. reason_at (m.0 k) (m.1 k) (m.2 k) (m.3 k)
given_back code rank q s t Load h e = let r : rank ≡ 7 = omega (arith, s, e) in rw r refl
given_back code rank q s t NoGauge h e = let r : rank ≡ 8 = omega (arith, s, e) in rw r refl

pub code_below : (reason : Reason) → IsCoded reason → code_of reason < 57600
code_below reason h =
    let n = numbered reason h in
    let m = n.5 in
    rw (code_is reason n.0 n.1 n.2 n.3 n.4) (omega (arith, m.first, m.last, m.of_body, m.of_index, m.of_quarter))

-- a quarter that a code has, and one where it has none
some_quarter : (code : ℕ) → (q : Quarter) × (quarter_number q ≡ code % 256 / 64 + 1)
some_quarter code = elim (cases_lt (code % 256 / 64) 2) [
  | inl low ↦ elim (cases_lt (code % 256 / 64) 1) [
    | inl none ↦ (Q1, omega (arith, none))
    | inr one ↦ (Q2, omega (arith, low, one))
  ]
  | inr high ↦ elim (cases_lt (code % 256 / 64) 3) [
    | inl two ↦ (Q3, omega (arith, high, two))
    | inr three ↦ (Q4, omega (arith, three))
  ]
]

pub unique_is : (reason other : Reason) → IsCoded reason → IsCoded other → code_of other ≡ code_of reason → other ≡ reason
unique_is reason other x y e =
    let code = code_of reason in
    let q = some_quarter code in
    sym (given_back code (code / 6400) q.0 refl q.1 other y e) ∙ given_back code (code / 6400) q.0 refl q.1 reason x refl

pub no_reason : (code : ℕ) → 9 ≤ code / 6400 → (reason : Reason) → IsCoded reason → code_of reason ≡ code → ⊥
no_reason code high reason h e = omega (arith, high, code_below reason h, e)
