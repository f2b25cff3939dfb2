-- What is proved of a key is one worth, and is found by going over the rows.
use Rattle.std.proofs.Common.{◌≡◌, ℕ, zero, suc, Bool, true, false, List, [], ◌∷◌, Some, inl, inr, refl, sym, subst, ap, cond}
use Rattle.std.specs.Prelude.{Option, slice_get, unwrap_or}
use Rattle.brake_base.specs.declared.stroke.Key.{Key}
use Rattle.brake_base.specs.declared.stroke.Worth.{Worth}
use Rattle.brake_base.specs.declared.stroke.Worth.TheVariants.{Cost}
use Rattle.brake_base.specs.Keys.{is_key}
use Rattle.brake_base.specs.Worths.{IsAtMost, greater}
use Rattle.brake_base.proofs.Keys.{key_is, key_is_itself}
use Rattle.brake_base.proofs.Worths.{at_most_self, at_most_through, at_most_both, greater_either, greater_first, greater_second}
use Rattle.job_setup.specs.Setup.{JobData}
use Rattle.handling_cost.specs.Bound.{bound_of}
use Rattle.handling_cost.specs.Good.{Proves, RowIn}
use Rattle.handling_cost.specs.Proved.{IsProvedWorth, proved_of}

-- there is one such worth and no other
pub proved_once : (job : JobData) (HasRow : Key → Worth → Type 0) (key : Key) (a b : Worth) → IsProvedWorth job HasRow key a → IsProvedWorth job HasRow key b → a ≡ b
proved_once job HasRow key a b one other = at_most_both a b (other.most a one.stands) (one.most b other.stands)

told_row : (row : Key × Worth) (key : Key) (worth : Worth) → Some row ≡ Some (key, worth) → (row.0 ≡ key) × (row.1 ≡ worth)
told_row row key worth is = let same = ap (λ (o : Option (Key × Worth)). unwrap_or o row) is in (ap (λ (p : Key × Worth). p.0) same, ap (λ (p : Key × Worth). p.1) same)

module _ (job : JobData) (row : Key × Worth) (rows : List (Key × Worth)) (key : Key) (before : IsProvedWorth job (RowIn rows) key (proved_of job rows key)) where
  stands_more : (worth : Worth) → Proves job (RowIn rows) key worth → Proves job (RowIn (row ∷ rows)) key worth
  stands_more worth (inl bound) = inl bound
  stands_more worth (inr at) = inr (suc at.0, at.1)

  stands_first : row.0 ≡ key → Proves job (RowIn (row ∷ rows)) key row.1
  stands_first same = inr (0, λ i. Some (same i, row.1))

  -- what is at least the worth of a first row of the key and what the others prove is at least what all of them prove
  most_more : (worth : Worth) → (row.0 ≡ key → IsAtMost row.1 worth) → IsAtMost (proved_of job rows key) worth → (other : Worth) → Proves job (RowIn (row ∷ rows)) key other → IsAtMost other worth
  most_more worth first later other (inl bound) = at_most_through other (proved_of job rows key) worth (before.most other (inl bound)) later
  most_more worth first later other (inr at) = by_place at.0 at.1
    where
      by_place : (i : ℕ) → slice_get (row ∷ rows) i ≡ Some (key, other) → IsAtMost other worth
      by_place zero is = let told = told_row row key other is in subst (λ (w : Worth). IsAtMost w worth) told.1 (first told.0)
      by_place (suc i) is = at_most_through other (proved_of job rows key) worth (before.most other (inr (i, is))) later

  more : (test : Bool) → is_key row.0 key ≡ test → IsProvedWorth job (RowIn (row ∷ rows)) key (cond test (greater row.1 (proved_of job rows key)) (proved_of job rows key))
  more true is = record {
    stands = elim (greater_either row.1 (proved_of job rows key)) [
      | inl same ↦ subst (Proves job (RowIn (row ∷ rows)) key) (sym same) (stands_first (key_is row.0 key is))
      | inr same ↦ subst (Proves job (RowIn (row ∷ rows)) key) (sym same) (stands_more (proved_of job rows key) before.stands)
    ];
    most = most_more (greater row.1 (proved_of job rows key)) (λ same. greater_first row.1 (proved_of job rows key)) (greater_second row.1 (proved_of job rows key));
  }
  more false is = record {
    stands = stands_more (proved_of job rows key) before.stands;
    most = most_more (proved_of job rows key) (λ same. let test = subst (λ (k : Key). is_key row.0 k ≡ true) same (key_is_itself row.0) in absurd cc) (at_most_self (proved_of job rows key));
  }

none_in : (key : Key) (worth : Worth) → RowIn [] key worth → ⊥
none_in key worth at = let is = at.1 in cc

-- the rows prove exactly the value
pub proved_is : (job : JobData) (rows : List (Key × Worth)) (key : Key) → IsProvedWorth job (RowIn rows) key (proved_of job rows key)
proved_is job [] key = record {
  stands = inl refl;
  most = λ other proves. elim proves [
    | inl bound ↦ subst (λ (w : Worth). IsAtMost w (Cost (bound_of job key))) (sym bound) (at_most_self (Cost (bound_of job key)))
    | inr at ↦ absurd (none_in key other at)
  ];
}
proved_is job (row ∷ rows) key = more job row rows key (proved_is job rows key) (is_key row.0 key) refl
