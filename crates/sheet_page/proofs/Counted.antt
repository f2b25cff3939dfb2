-- A count that rises by one.
use Rattle.std.proofs.Common.{◌≡◌, ◌≢◌, ◌∙◌, ℕ, zero, suc, ◌+◌, ◌-◌, ◌*◌, ◌<◌, ◌≤◌, inl, inr, Bool, true, false, List, [], ◌∷◌, length, get_or, set, refl, ap, sym, subst, arith}
use Rattle.std.specs.Prelude.{◌==◌, ◌&&◌, cond, nat_le}
use Rattle.std.specs.List.{list_all}
use Rattle.std.proofs.lemmas.Bool.{cases_eq, eq-eqb, eqb-true, ne_eqb, le-leb, leb-true, and_parts, and_from, and_left, and_right}
use Rattle.std.proofs.lemmas.List.{get_or-set_same, get_or-set_other}
use Rattle.sheet_page.specs.declared.kept.Counts.{Counts}
use Rattle.sheet_page.specs.Kept.{is_bend, is_kind, count_in}

same_when : (g : Bool) (x y : ℕ) → (g ≡ true → x ≡ y) → cond g x 0 ≡ cond g y 0
same_when true x y h = h refl
same_when false x y h = refl

-- no count
abbrev pub is_zero : ℕ → Bool
is_zero n = n == 0

zero_when : (g : Bool) (x : ℕ) → x ≡ 0 → cond g x 0 ≡ 0
zero_when true x is = is
zero_when false x is = refl

zero_at : (xs : List ℕ) (k : ℕ) → list_all is_zero xs ≡ true → get_or xs k 0 ≡ 0
zero_at [] k are = refl
zero_at (x ∷ xs) zero are = eqb-true x 0 (and_parts (is_zero x) (list_all is_zero xs) are).0
zero_at (x ∷ xs) (suc k) are = zero_at xs k (and_parts (is_zero x) (list_all is_zero xs) are).1

pub no_count : (all : List ℕ) → list_all is_zero all ≡ true → (b k : ℕ) → count_in (record { all = all }) b k ≡ 0
unfolding count_in
no_count all are b k = zero_when (is_bend b && is_kind k) (get_or all ((b - 1) * 9 + (k - 1)) 0) (zero_at all ((b - 1) * 9 + (k - 1)) are)

module _ (all : List ℕ) (bend kind place : ℕ) (some : 1 ≤ bend) (few : bend ≤ 12) (some_kind : 1 ≤ kind) (few_kinds : kind ≤ 9) (place_is : place ≡ (bend - 1) * 9 + (kind - 1)) (within : place < length all) where
  abbrev old : Counts
  old = record { all = all }

  abbrev new : Counts
  new = record { all = set all place (get_or all place 0 + 1) }

  abbrev Counted : (b k : ℕ) → Type 0
  Counted b k = count_in new b k ≡ count_in old b k + cond (bend == b && kind == k) 1 0

  lowest : (n m : ℕ) → (nat_le 1 n && nat_le n m) ≡ true → (1 ≤ n) × (n ≤ m)
  lowest n m is = (leb-true 1 n (and_parts (nat_le 1 n) (nat_le n m) is).0, leb-true n m (and_parts (nat_le 1 n) (nat_le n m) is).1)

  -- a count that stays
  stays : (b k : ℕ) → (bend == b && kind == k) ≡ false → ((b ≡ bend) × (k ≡ kind) → ⊥) → Counted b k
  unfolding count_in
  stays b k other differs =
      let there = (b - 1) * 9 + (k - 1) in
      let kept = same_when (is_bend b && is_kind k) (get_or (set all place (get_or all place 0 + 1)) there 0) (get_or all there 0) (λ is.
      let low = lowest b 12 (and_parts (is_bend b) (is_kind k) is).0 in
      let low_kind = lowest k 9 (and_parts (is_bend b) (is_kind k) is).1 in
      let apart : there ≢ place = λ same.
      let one : b ≡ bend = omega (arith, same, place_is, low.0, low_kind.0, low_kind.1, some, some_kind, few_kinds) in
      let also : k ≡ kind = omega (arith, same, place_is, low.0, low_kind.0, low_kind.1, some, some_kind, few_kinds) in
      differs (one, also) in
      get_or-set_other all place there (get_or all place 0 + 1) 0 apart) in
      let none : cond (bend == b && kind == k) 1 0 ≡ 0 = ap {B = ℕ} (λ (t : Bool). cond t 1 0) other in
      omega (arith, kept, none)

  here : (is_bend bend && is_kind kind) ≡ true
  here =
      and_from (is_bend bend) (is_kind kind) (and_from (nat_le 1 bend) (nat_le bend 12) (le-leb 1 bend some) (le-leb bend 12 few))
      (and_from (nat_le 1 kind) (nat_le kind 9) (le-leb 1 kind some_kind) (le-leb kind 9 few_kinds))

  pub count_is : count_in old bend kind ≡ get_or all place 0
  unfolding count_in
  count_is = ap (λ (t : Bool). cond t (get_or all ((bend - 1) * 9 + (kind - 1)) 0) 0) here ∙ ap (λ (n : ℕ). get_or all n 0) (sym place_is)

  of_both : Counted bend kind
  unfolding count_in
  of_both =
      let risen = ap (λ (t : Bool). cond t (get_or (set all place (get_or all place 0 + 1)) ((bend - 1) * 9 + (kind - 1)) 0) 0) here
      ∙ ap (λ (n : ℕ). get_or (set all place (get_or all place 0 + 1)) n 0) (sym place_is) ∙ get_or-set_same all place (get_or all place 0 + 1) 0 within in
      let was = ap (λ (t : Bool). cond t (get_or all ((bend - 1) * 9 + (kind - 1)) 0) 0) here ∙ ap (λ (n : ℕ). get_or all n 0) (sym place_is) in
      let both : cond (bend == bend && kind == kind) 1 0 ≡ 1 = ap {B = ℕ} (λ (t : Bool). cond t 1 0) (and_from (bend == bend) (kind == kind) (eq-eqb bend bend refl) (eq-eqb kind kind refl)) in
      omega (arith, risen, was, both)

  pub counted : (b k : ℕ) → Counted b k
  counted b k = elim (cases_eq b bend) [
    | inl same ↦ elim (cases_eq k kind) [
      | inl also ↦ subst (λ (n : ℕ). Counted n k) (sym same) (subst (λ (n : ℕ). Counted bend n) (sym also) of_both)
      | inr differs ↦ stays b k (and_right (bend == b) (kind == k) (ne_eqb kind k (λ is. differs (sym is)))) (λ both. differs both.1)
    ]
    | inr differs ↦ stays b k (and_left (bend == b) (kind == k) (ne_eqb bend b (λ is. differs (sym is)))) (λ both. differs both.0)
  ]
