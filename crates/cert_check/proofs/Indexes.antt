-- How the rows are entered at the numbers of their keys, and found there.
use Rattle.std.proofs.Common.{◌≡◌, inl, inr, ℕ, zero, suc, replicate, ◌+◌, ◌<◌, List, length, set, get_or, Some, None, arith, refl, sym, ◌∙◌, ap, subst}
use Rattle.std.proofs.lemmas.Bool.Decides.{eqb_tells}
use Rattle.std.proofs.lemmas.List.{get_or_default, get_or-set_same, get_or-set_other}
use Rattle.brake_base.specs.declared.stroke.Key.{Key}
use Rattle.job_setup.specs.Setup.{JobData}
use Rattle.job_setup.specs.ValidJob.{IsJob}
use Rattle.handling_cost.specs.StepCost.{IsKeyOf}
use Rattle.cert_lines.specs.declared.row_head.RowHead.{RowHead}
use Rattle.plan_cert.specs.KeyPlaces.{key_place, key_count}
use Rattle.plan_cert.specs.WellFormed.{AreRowsOf}
use Rattle.plan_cert.specs.GoodCert.{HaveRow}
use Rattle.cert_check.specs.RowTable.{IsIndexed, IsRowTable, IsWorthAt}
use Rattle.plan_cert.proofs.RowOrder.{no_row, same_key, few_stages, same_row, number_within, row_of, have_row, one_row}

zeros : (n i : ℕ) → get_or (replicate n zero) i zero ≡ zero
zeros zero i = refl
zeros (suc n) zero = refl
zeros (suc n) (suc i) = zeros n i

-- before the first row is entered
pub index_starts : (rows : List RowHead) (n : ℕ) → IsIndexed rows 0 (replicate n 0)
index_starts rows n = record {
  each = λ i d none. absurd (omega (arith, none));
  only = λ place i d at. absurd (let zero_at = zeros n place in omega (arith, at, zero_at));
}

module _ (job : JobData) (is_job : IsJob job) (rows : List RowHead) (are : AreRowsOf job rows) (places : List ℕ) (count : length places ≡ key_count job) where
  -- a further row is entered
  pub index_grows : (i : ℕ) → i < length rows → (e : RowHead) → IsIndexed rows i places → IsIndexed rows (i + 1) (set places (key_place (get_or rows i e).key) (i + 1))
  index_grows i within e indexed = record { each = each; only = only }
    where
      inside : key_place (get_or rows i e).key < length places
      inside = let fits = number_within job is_job rows are i e within in omega (arith, fits, count)

      each : (k : ℕ) (d : RowHead) → k < i + 1 → get_or (set places (key_place (get_or rows i e).key) (i + 1)) (key_place (get_or rows k d).key) 0 ≡ k + 1
      each k d less = elim (eqb_tells k i) [
        | inl here ↦
            let same : key_place (get_or rows k d).key ≡ key_place (get_or rows i e).key =
            ap (λ (n : ℕ). key_place (get_or rows n d).key) here.1 ∙ ap (λ (row : RowHead). key_place row.key) (get_or_default rows i d e within) in
            let number = here.1 in
            ap (λ (n : ℕ). get_or (set places (key_place (get_or rows i e).key) (i + 1)) n 0) same
            ∙ (get_or-set_same places (key_place (get_or rows i e).key) (i + 1) 0 inside ∙ omega (arith, number))
        | inr there ↦
            let no = there.1 in
            let before : k < i = omega (arith, less, no) in
            get_or-set_other places (key_place (get_or rows i e).key) (key_place (get_or rows k d).key) (i + 1) 0
            (λ same. no (same_row job is_job rows are k i d (omega (arith, before, within)) within (same ∙ ap (λ (row : RowHead). key_place row.key) (get_or_default rows i e d within))))
            ∙ indexed.each k d before
      ]

      only : (p k : ℕ) (d : RowHead) → get_or (set places (key_place (get_or rows i e).key) (i + 1)) p 0 ≡ k + 1 → (k < i + 1) × (key_place (get_or rows k d).key ≡ p)
      only p k d at = elim (eqb_tells p (key_place (get_or rows i e).key)) [
        | inl here ↦
            let read = ap (λ (n : ℕ). get_or (set places (key_place (get_or rows i e).key) (i + 1)) n 0) (sym here.1) ∙ at in
            let value = sym (get_or-set_same places (key_place (get_or rows i e).key) (i + 1) 0 inside) ∙ read in
            let number : k ≡ i = omega (arith, value) in
            (omega (arith, number), ap (λ (n : ℕ). key_place (get_or rows n d).key) number ∙ (ap (λ (row : RowHead). key_place row.key) (get_or_default rows i d e within) ∙ sym here.1))
        | inr there ↦
            let old = indexed.only p k d (sym (get_or-set_other places (key_place (get_or rows i e).key) p (i + 1) 0 there.1) ∙ at) in
            (omega (arith, old.0), old.1)
      ]

module _ (job : JobData) (is_job : IsJob job) (rows : List RowHead) (places : List ℕ) (table : IsRowTable job rows places) (key : Key) (is_key : IsKeyOf job key) where
  small_stage : key.stage < 6
  small_stage = let some = is_key.stage in let few = few_stages job is_job in omega (arith, some, few)

  pub key_within : key_place key < length places
  key_within =
      let mask = is_key.mask in
      let attitude = is_key.attitude in
      let stage = small_stage in
      let count = table.count in
      omega (arith, mask, attitude, stage, count)

  -- where 0 stands at the key's number no row has the key
  pub no_worth : get_or places (key_place key) 0 ≡ 0 → IsWorthAt rows key None
  no_worth none worth row =
      let of = row_of job is_job rows table.ordered key worth row in
      let at = table.indexed.each of.0 no_row of.1 in
      let read : get_or places (key_place key) 0 ≡ of.0 + 1 = ap (λ (head : RowHead). get_or places (key_place head.key) 0) (sym (of.2 no_row)) ∙ at in
      omega (arith, none, read)

  -- else the row is the one before
  pub some_worth : (i : ℕ) (d : RowHead) → get_or places (key_place key) 0 ≡ i + 1 → (i < length rows) × IsWorthAt rows key (Some (get_or rows i d).worth)
  some_worth i d at =
      let found = table.indexed.only (key_place key) i d at in
      let row = table.ordered.each i d found.0 in
      let stage : (get_or rows i d).key.stage < 6 = let some = row.stage in let few = few_stages job is_job in omega (arith, some, few) in
      let is : (get_or rows i d).key ≡ key = same_key (get_or rows i d).key key row.attitude stage is_key.attitude small_stage found.1 in
      let has : HaveRow rows key (get_or rows i d).worth = subst (λ (k : Key). HaveRow rows k (get_or rows i d).worth) is (have_row job is_job rows table.ordered i d found.0) in
      (found.0, (has, (λ other its. one_row job is_job rows table.ordered key other (get_or rows i d).worth its has), row.worth))
