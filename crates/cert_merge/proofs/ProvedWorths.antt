-- What the rows of a table prove of a key, found by its place among them.
use Rattle.std.proofs.Common.{◌≡◌, ◌↔◌, IsTrue, Bool, true, false, inl, inr, ℕ, ◌<◌, ◌≤◌, List, length, map, get_or, AllPairs, Option, Some, None, arith, refl, sym, ◌∙◌, ap, subst}
use Rattle.std.specs.Prelude.{option_map}
use Rattle.std.proofs.lemmas.Bool.{cases_lt}
use Rattle.std.proofs.lemmas.List.{length-map, get_or-map, get_or_default}
use Rattle.std.proofs.lemmas.Option.{slice_get_within, get_or_from_slice_get, slice_get-get_or, slice_get-map}
use Rattle.brake_base.specs.declared.stroke.Key.{Key}
use Rattle.brake_base.specs.declared.stroke.Worth.{Worth}
use Rattle.brake_base.specs.declared.stroke.Worth.TheVariants.{Cost}
use Rattle.brake_base.specs.Keys.{key_numbers, KeyIsBefore}
use Rattle.brake_base.specs.Worths.{IsAtMost, greater}
use Rattle.brake_base.proofs.Worths.{at_most_self, greater_either, greater_first, greater_second}
use Rattle.job_setup.specs.Setup.{JobData}
use Rattle.job_setup.specs.ValidJob.{IsJob}
use Rattle.handling_cost.specs.Bound.{bound_of}
use Rattle.handling_cost.specs.Good.{Proves}
use Rattle.handling_cost.specs.Proved.{IsProvedWorth}
use Rattle.handling_cost.proofs.Proved.{proved_once, proved_is}
use Rattle.cert_lines.specs.declared.row_head.RowHead.{RowHead}
use Rattle.cert_lines.specs.Lines.{IsWorth}
use Rattle.plan_cert.specs.WellFormed.{AreRowsOf}
use Rattle.plan_cert.specs.GoodCert.{worths_in, HaveRow}
use Rattle.plan_cert.proofs.RowOrder.{no_row, row_of, one_row}
use Rattle.cert_merge.specs.TableChecks.{proved_by, IsWorthIn, IsWorthAt, IsPlaceOf}
use Rattle.cert_merge.specs.MergeSteps.{key_before}
use Rattle.cert_merge.proofs.Orders.{told, tested}
use Rattle.cert_merge.proofs.Merging.{key_through, key_never}

-- the test of the order of keys is its value
pub before_is : (a b : Key) (test : Bool) → IsTrue test ↔ KeyIsBefore a b → test ≡ key_before a b
before_is a b true is = sym (tested (key_numbers a) (key_numbers b) (is.0 refl))
before_is a b false is = by_test (key_before a b) refl
  where
    by_test : (t : Bool) → key_before a b ≡ t → false ≡ key_before a b
    by_test false e = sym e
    by_test true e = let yes = is.1 (told (key_numbers a) (key_numbers b) e) in absurd cc

-- where the test parts the rows
pub is_place : (rows : List RowHead) (key : Key) (place : ℕ) → ((k : ℕ) (d : RowHead) → k < place → key_before (get_or rows k d).key key ≡ true)
    → ((k : ℕ) (d : RowHead) → place ≤ k → k < length rows → key_before (get_or rows k d).key key ≡ false) → IsPlaceOf rows key place
is_place rows key place first rest = record {
  before = λ k d within less. told (key_numbers (get_or rows k d).key) (key_numbers key) (first k d less);
  behind = λ k d past within before.
      let yes = tested (key_numbers (get_or rows k d).key) (key_numbers key) before in
      let no = rest k d past within in
      absurd cc;
}

-- a row of a key, with its place
key_at_place : (rows : List RowHead) (key : Key) (worth : Worth) → HaveRow rows key worth → (i : ℕ) × (i < length rows) × ((d : RowHead) → (get_or rows i d).key ≡ key)
key_at_place rows key worth (i, at) =
    let pair : RowHead → Key × Worth = λ row. (row.key, row.worth) in
    let inside : i < length (map pair rows) = slice_get_within (map pair rows) i (key, worth) at in
    let within : i < length rows = rw (length-map rows pair) at inside in (
      i,
      within,
      λ d. ap (λ (p : Key × Worth). p.0) (sym (get_or-map pair rows i d (key, worth) within) ∙ get_or_from_slice_get (map pair rows) i (key, worth) (key, worth) at),
    )

module _ (rows : List RowHead) (order : AllPairs KeyIsBefore (map (λ row. row.key) rows)) where
  -- the key of an earlier row stands before that of a later one
  rows_ascend : (i j : ℕ) (d : RowHead) → i < j → j < length rows → KeyIsBefore (get_or rows i d).key (get_or rows j d).key
  rows_ascend i j d before within =
      let keys = map (λ (row : RowHead). row.key) rows in
      let inside : j < length keys = rw (length-map rows (λ (row : RowHead). row.key)) within in
      let one : KeyIsBefore (get_or keys i d.key) (get_or keys j d.key) = order i j d.key before inside in
      let first = get_or-map (λ (row : RowHead). row.key) rows i d d.key (omega (arith, before, within)) in
      let second = get_or-map (λ (row : RowHead). row.key) rows j d d.key within in
      subst (λ (k : Key). KeyIsBefore k (get_or rows j d).key) first (subst (λ (k : Key). KeyIsBefore (get_or keys i d.key) k) second one)

  -- where an element stands before a key all earlier ones do
  pub earlier_too : (key : Key) (i j : ℕ) (d : RowHead) → i ≤ j → j < length rows → KeyIsBefore (get_or rows j d).key key → KeyIsBefore (get_or rows i d).key key
  earlier_too key i j d at_most within before = elim (cases_lt i j) [
    | inl less ↦ key_through (get_or rows i d).key (get_or rows j d).key key (rows_ascend i j d less within) before
    | inr not ↦ let same : j ≡ i = omega (arith, at_most, not) in subst (λ (n : ℕ). KeyIsBefore (get_or rows n d).key key) same before
  ]

  -- no row has the key where the one at its place hasn't
  pub none_in : (key : Key) (place : ℕ) → IsPlaceOf rows key place → ((d : RowHead) → place < length rows → (get_or rows place d).key ≡ key → ⊥) → IsWorthIn rows key None
  none_in key place of other worth row =
      let found = key_at_place rows key worth row in
      let i = found.0 in
      elim (cases_lt i place) [
        | inl less ↦ key_never (get_or rows i no_row).key key (found.2 no_row) (of.before i no_row found.1 less)
        | inr not ↦ elim (cases_lt place i) [
          | inl more ↦ of.behind place no_row (omega arith) (let within = found.1 in omega (arith, more, within)) (subst (KeyIsBefore (get_or rows place no_row).key) (found.2 no_row) (rows_ascend place i no_row more found.1))
          | inr again ↦
              let same : i ≡ place = omega (arith, not, again) in
              other no_row (subst (λ (n : ℕ). n < length rows) same found.1) (subst (λ (n : ℕ). (get_or rows n no_row).key ≡ key) same (found.2 no_row))
        ]
      ]

  -- what the row at the place of a key says is what all say
  pub worth_in : (key : Key) (place : ℕ) (row : RowHead) (found : Option Worth) → IsPlaceOf rows key place → place < length rows → row ≡ get_or rows place row → IsWorthAt row key found → IsWorthIn rows key found
  worth_in key place row (Some worth) of within read at =
      let pair : RowHead → Key × Worth = λ row. (row.key, row.worth) in (
        place,
        slice_get-map pair rows place ∙ (ap (option_map pair) (slice_get-get_or rows place row within ∙ ap Some (sym read)) ∙ λ i. Some (at.0 i, at.1 i)),
      )
  worth_in key place row None of within read at =
      none_in key place of (λ d inside is. at (ap (λ (r : RowHead). r.key) (read ∙ get_or_default rows place row d inside) ∙ is))

  pub none_past : (key : Key) (place : ℕ) → IsPlaceOf rows key place → (place < length rows → ⊥) → IsWorthIn rows key None
  none_past key place of past = none_in key place of (λ d inside is. past inside)

module _ (job : JobData) (is_job : IsJob job) (rows : List RowHead) (are : AreRowsOf job rows) (key : Key) where
  pub row_small : (worth : Worth) → HaveRow rows key worth → IsWorth worth
  row_small worth row =
      let of = row_of job is_job rows are key worth row in
      subst IsWorth (ap (λ (r : RowHead). r.worth) (of.2 no_row)) (are.each of.0 no_row of.1).worth

  -- without a row the bound is proved
  pub bound_proved : IsWorthIn rows key None → Cost (bound_of job key) ≡ proved_by job rows key
  bound_proved none = proved_once job (HaveRow rows) key (Cost (bound_of job key)) (proved_by job rows key) one (proved_is job (worths_in rows) key)
    where
      one : IsProvedWorth job (HaveRow rows) key (Cost (bound_of job key))
      one = record {
        stands = inl refl;
        most = λ other proves. elim proves [
          | inl bound ↦ subst (λ (w : Worth). IsAtMost w (Cost (bound_of job key))) (sym bound) (at_most_self (Cost (bound_of job key)))
          | inr row ↦ absurd (none other row)
        ];
      }

  -- with one the greater of the bound and its worth
  pub row_proved : (worth : Worth) → HaveRow rows key worth → greater (Cost (bound_of job key)) worth ≡ proved_by job rows key
  row_proved worth row = proved_once job (HaveRow rows) key (greater (Cost (bound_of job key)) worth) (proved_by job rows key) one (proved_is job (worths_in rows) key)
    where
      one : IsProvedWorth job (HaveRow rows) key (greater (Cost (bound_of job key)) worth)
      one = record {
        stands = elim (greater_either (Cost (bound_of job key)) worth) [
          | inl same ↦ inl same
          | inr same ↦ subst (Proves job (HaveRow rows) key) (sym same) (inr row)
        ];
        most = λ other proves. elim proves [
          | inl is ↦ subst (λ (w : Worth). IsAtMost w (greater (Cost (bound_of job key)) worth)) (sym is) (greater_first (Cost (bound_of job key)) worth)
          | inr its ↦
              subst (λ (w : Worth). IsAtMost w (greater (Cost (bound_of job key)) worth)) (one_row job is_job rows are key worth other row its)
              (greater_second (Cost (bound_of job key)) worth)
        ];
      }

pub greater_small : (a b : Worth) → IsWorth a → IsWorth b → IsWorth (greater a b)
greater_small a b first second = elim (greater_either a b) [
  | inl same ↦ subst IsWorth (sym same) first
  | inr same ↦ subst IsWorth (sym same) second
]
