-- The least codes of the reasons of which something holds.
use Rattle.std.proofs.Common.{◌≡◌, ◌⊎◌, inl, inr, ℕ, ◌+◌, ◌<◌, ◌≤◌, ◌==◌, min, Bool, List, slice_index, refl, sym, ◌∙◌, ap, subst, arith}
use Rattle.std.specs.Prelude.{if◌then◌else◌}
use Rattle.std.proofs.lemmas.Bool.{cases_lt, eq-eqb, lt-ltb, le-ltb}
use Rattle.std.proofs.lemmas.Bool.Decides.{eqb_tells}
use Rattle.brake_base.specs.declared.reason.Reason.{Reason}
use Rattle.brake_base.specs.Reasons.{ReasonIsBefore}
use Rattle.stage_lanes.specs.Codes.{IsCoded}
use Rattle.stage_lanes.specs.Lanes.{AreLanes}
use Rattle.stage_lanes.proofs.CodeLemmas.{order_is}
use Rattle.stroke_table.specs.Codes.{IsCodeOfOne, IsLeastCode, AreLeastCodes, at_stages, IsFreeSomewhere}

one_of_more : (P Q : Reason → Type 0) (code : ℕ) → ((reason : Reason) → P reason → Q reason) → IsCodeOfOne P code → IsCodeOfOne Q code
one_of_more P Q code more (inl free) = inl free
one_of_more P Q code more (inr some) = inr (some.0, more some.0 some.1, some.2)

-- the lesser of two codes is that of the reasons of either kind
either_code : (P Q R : Reason → Type 0) (a b : ℕ) → IsLeastCode P a → IsLeastCode Q b → ((reason : Reason) → R reason → P reason ⊎ Q reason) → ((reason : Reason) → P reason → R reason) → ((reason : Reason) → Q reason → R reason) → IsLeastCode R (min a b)
either_code P Q R a b left right split from_left from_right = record {
  least = λ reason holds. elim (split reason holds) [
    | inl here ↦ let own = left.least reason here in let low = own.1 in (own.0, omega (arith, low))
    | inr here ↦ let own = right.least reason here in let low = own.1 in (own.0, omega (arith, low))
  ];
  one = elim (cases_lt b a) [
    | inl less ↦ let is : b ≡ min a b = omega (arith, less) in subst (IsCodeOfOne R) is (one_of_more Q R b from_right right.one)
    | inr rest ↦ let is : a ≡ min a b = omega (arith, rest) in subst (IsCodeOfOne R) is (one_of_more P R a from_left left.one)
  ];
}

pub same_code : (P Q : Reason → Type 0) (code : ℕ) → ((reason : Reason) → Q reason → P reason) → ((reason : Reason) → P reason → Q reason) → IsLeastCode P code → IsLeastCode Q code
same_code P Q code back there is = record { least = λ reason holds. is.least reason (back reason holds); one = one_of_more P Q code there is.one }

pub same_codes : (n : ℕ) (P Q : ℕ → Reason → Type 0) (codes : List ℕ) → ((stage : ℕ) (reason : Reason) → stage < n → Q stage reason → P stage reason) → ((stage : ℕ) (reason : Reason) → stage < n → P stage reason → Q stage reason) → AreLeastCodes n P codes
    → AreLeastCodes n Q codes
same_codes n P Q codes back there are = record {
  each = λ stage low. same_code (P stage) (Q stage) (slice_index codes stage) (λ reason. back stage reason low) (λ reason. there stage reason low) (are.each stage low);
  past = are.past;
}

pub either_codes : (n : ℕ) (P Q R : ℕ → Reason → Type 0) (xs ys zs : List ℕ) → n ≤ 8 → AreLeastCodes n P xs → AreLeastCodes n Q ys → ((stage : ℕ) (reason : Reason) → stage < n → R stage reason → P stage reason ⊎ Q stage reason)
    → ((stage : ℕ) (reason : Reason) → stage < n → P stage reason → R stage reason) → ((stage : ℕ) (reason : Reason) → stage < n → Q stage reason → R stage reason) → AreLanes zs (λ stage. min (slice_index xs stage) (slice_index ys stage)) → AreLeastCodes n R zs
either_codes n P Q R xs ys zs few left right split from_left from_right lanes = record {
  each = λ stage low. subst (IsLeastCode (R stage)) (sym (lanes stage (omega (arith, low, few))))
      (either_code (P stage) (Q stage) (R stage) (slice_index xs stage) (slice_index ys stage) (left.each stage low) (right.each stage low) (λ reason. split stage reason low) (λ reason. from_left stage reason low) (λ reason. from_right stage reason low));
  past = λ stage past low.
      let one = left.past stage past low in
      let other = right.past stage past low in
      let both : min (slice_index xs stage) (slice_index ys stage) ≡ 65535 = omega (arith, one, other) in
      lanes stage low ∙ both;
}

-- where nothing holds
pub none_hold : (n : ℕ) (P : ℕ → Reason → Type 0) (codes : List ℕ) → n ≤ 8 → AreLanes codes (λ stage. 65535) → ((stage : ℕ) (reason : Reason) → stage < n → P stage reason → ⊥) → AreLeastCodes n P codes
none_hold n P codes few lanes none = record {
  each = λ stage low. record { least = λ reason holds. absurd (none stage reason low holds); one = inl (lanes stage (omega (arith, low, few))) };
  past = λ stage past low. lanes stage low;
}

-- one stage more
pub stage_more : (n : ℕ) (P : ℕ → Reason → Type 0) (before after : List ℕ) (code : ℕ) → n < 8 → AreLeastCodes n P before → IsLeastCode (P n) code → AreLanes after (λ stage. if stage == n then code else slice_index before stage) → AreLeastCodes (n + 1) P after
stage_more n P before after code few are one lanes = record {
  each = λ stage low. elim (eqb_tells stage n) [
    | inl same ↦ subst (λ (s : ℕ). IsLeastCode (P s) (slice_index after s)) (sym same.1) (subst (IsLeastCode (P n)) (sym (lanes n few ∙ ap (λ (t : Bool). if t then code else slice_index before n) (eq-eqb n n refl))) one)
    | inr other ↦
        let differ = other.1 in
        let earlier : stage < n = elim (cases_lt stage n) [ inl less ↦ less | inr rest ↦ absurd (differ (omega (arith, low, rest))) ] in
        subst (IsLeastCode (P stage)) (sym (lanes stage (omega (arith, earlier, few)) ∙ ap (λ (t : Bool). if t then code else slice_index before stage) other.0)) (are.each stage earlier)
  ];
  past = λ stage past low. elim (eqb_tells stage n) [
    | inl same ↦ let is = same.1 in absurd (omega (arith, is, past))
    | inr other ↦ lanes stage low ∙ ap (λ (t : Bool). if t then code else slice_index before stage) other.0 ∙ are.past stage (omega (arith, past)) low
  ];
}

-- one code at each stage
pub code_at_stages : (n : ℕ) (P : ℕ → Reason → Type 0) (codes : List ℕ) (code : ℕ) → n ≤ 8 → ((stage : ℕ) → stage < n → IsLeastCode (P stage) code) → AreLanes codes (at_stages code n) → AreLeastCodes n P codes
code_at_stages n P codes code few each lanes = record {
  each = λ stage low. subst (IsLeastCode (P stage)) (sym (lanes stage (omega (arith, low, few)) ∙ ap (λ (t : Bool). if t then code else 65535) (lt-ltb stage n low))) (each stage low);
  past = λ stage past low. lanes stage low ∙ ap (λ (t : Bool). if t then code else 65535) (le-ltb stage n past);
}

pub at_stages_more : (code n stage : ℕ) → (if stage == n then code else at_stages code n stage) ≡ at_stages code (n + 1) stage
at_stages_more code n stage = elim (eqb_tells stage n) [
  | inl same ↦
      let is = same.1 in
      ap (λ (t : Bool). if t then code else at_stages code n stage) same.0 ∙ sym (ap (λ (t : Bool). if t then code else 65535) (lt-ltb stage (n + 1) (omega (arith, is))))
  | inr other ↦ ap (λ (t : Bool). if t then code else at_stages code n stage) other.0 ∙ elim (cases_lt stage n) [
    | inl less ↦ ap (λ (t : Bool). if t then code else 65535) (lt-ltb stage n less) ∙ sym (ap (λ (t : Bool). if t then code else 65535) (lt-ltb stage (n + 1) (omega (arith, less))))
    | inr rest ↦
        let differ = other.1 in
        let above : n + 1 ≤ stage = elim (cases_lt n stage) [ inl more ↦ omega (arith, more) | inr less ↦ absurd (differ (omega (arith, rest, less))) ] in
        ap (λ (t : Bool). if t then code else 65535) (le-ltb stage n rest) ∙ sym (ap (λ (t : Bool). if t then code else 65535) (le-ltb stage (n + 1) above))
  ]
]

-- where a reason stands at each stage, those that come after it change nothing
pub later_codes : (n : ℕ) (P R : ℕ → Reason → Type 0) (codes : List ℕ) → AreLeastCodes n P codes → (IsFreeSomewhere codes n → ⊥) → ((stage : ℕ) (reason : Reason) → stage < n → P stage reason → R stage reason) → ((stage : ℕ) (reason : Reason) → stage < n → R stage reason → IsCoded reason)
    → ((stage : ℕ) (reason first : Reason) → stage < n → R stage reason → P stage first → P stage reason ⊎ ReasonIsBefore first reason) → AreLeastCodes n R codes
later_codes n P R codes are busy more coded order = record {
  each = λ stage low. by_one stage low (are.each stage low) (are.each stage low).one;
  past = are.past;
}
  where
    by_one : (stage : ℕ) → stage < n → IsLeastCode (P stage) (slice_index codes stage) → IsCodeOfOne (P stage) (slice_index codes stage) → IsLeastCode (R stage) (slice_index codes stage)
    by_one stage low is (inl free) = absurd (busy (stage, low, free))
    by_one stage low is (inr some) = record {
      least = λ reason holds. elim (order stage reason some.0 low holds some.1) [
        | inl here ↦ is.least reason here
        | inr later ↦
            let less = (order_is some.0 reason (is.least some.0 some.1).0 (coded stage reason low holds)).0 later in
            let same = some.2 in
            (coded stage reason low holds, omega (arith, less, same))
      ];
      one = inr (some.0, more stage some.0 low some.1, some.2);
    }
