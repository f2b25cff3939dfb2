-- Rows in strict order of their keys: each key has one, and there are no more rows than keys.
use Rattle.std.proofs.Common.{◌≡◌, inl, inr, ℕ, zero, suc, ◌-◌, ◌^◌, ◌<◌, ◌≤◌, List, length, map, get_or, Some, arith, refl, sym, ◌∙◌, ap, subst}
use Rattle.std.specs.Prelude.{slice_get}
use Rattle.std.proofs.lemmas.Bool.{cases_lt}
use Rattle.std.proofs.lemmas.List.{length-map, get_or-map}
use Rattle.std.proofs.lemmas.Option.{slice_get_within, get_or_from_slice_get, slice_get-get_or, slice_get-map}
use Rattle.std.proofs.Math.Pow.{pow_mono}
use Rattle.brake_base.specs.declared.stroke.Key.{Key}
use Rattle.brake_base.specs.declared.stroke.Worth.{Worth}
use Rattle.brake_base.specs.declared.stroke.Worth.TheVariants.{Blocked}
use Rattle.brake_base.specs.Keys.{KeyIsBefore}
use Rattle.job_setup.specs.Setup.{JobData, bend_count, stage_count}
use Rattle.job_setup.specs.ValidJob.{IsJob}
use Rattle.handling_cost.proofs.Actions.{few_bends}
use Rattle.cert_lines.specs.declared.row_head.RowHead.{RowHead}
use Rattle.plan_cert.specs.WellFormed.{AreRowsOf}
use Rattle.plan_cert.specs.GoodCert.{worths_in, HaveRow}
use Rattle.plan_cert.specs.KeyPlaces.{key_place, key_count}

-- a row where there is none
pub no_row : RowHead
no_row = record { key = record { mask = record { 0 = 0 }; attitude = 0; stage = 0 }; worth = Blocked }

number_grows : (a b : Key) → a.attitude < 24 → a.stage < 6 → KeyIsBefore a b → key_place a < key_place b
number_grows a b attitude stage (inl mask) = omega (arith, attitude, stage, mask)
number_grows a b attitude stage (inr (mask, inl turn)) = omega (arith, stage, mask, turn)
number_grows a b attitude stage (inr (mask, inr (turn, inl way))) = omega (arith, mask, turn, way)
number_grows a b attitude stage (inr (mask, inr (turn, inr (way, never)))) = absurd never

-- two keys of one number are one
pub same_key : (a b : Key) → a.attitude < 24 → a.stage < 6 → b.attitude < 24 → b.stage < 6 → key_place a ≡ key_place b → a ≡ b
same_key a b turn way turn_b way_b same =
    let mask : a.mask.0 ≡ b.mask.0 = omega (arith, turn, way, turn_b, way_b, same) in
    let attitude : a.attitude ≡ b.attitude = omega (arith, way, way_b, same, mask) in
    let stage : a.stage ≡ b.stage = omega (arith, same, mask, attitude) in
    λ i. record { mask = record { 0 = mask i }; attitude = attitude i; stage = stage i }

pub few_stages : (job : JobData) → IsJob job → stage_count job ≤ 6
few_stages job is_job = is_job.setup.stages.few_stages

module _ (job : JobData) (is_job : IsJob job) (rows : List RowHead) (are : AreRowsOf job rows) where
  small_stage : (i : ℕ) (d : RowHead) → i < length rows → (get_or rows i d).key.stage < 6
  small_stage i d within = omega (arith, (are.each i d within).stage, few_stages job is_job)

  -- the number of the key of an earlier row is less
  pub row_grows : (i j : ℕ) (d : RowHead) → i < j → j < length rows → key_place (get_or rows i d).key < key_place (get_or rows j d).key
  row_grows i j d before within =
      let keys = map (λ (row : RowHead). row.key) rows in
      let inside : j < length keys = rw (length-map rows (λ (row : RowHead). row.key)) within in
      let one : KeyIsBefore (get_or keys i d.key) (get_or keys j d.key) = are.order i j d.key before inside in
      let first = get_or-map (λ (row : RowHead). row.key) rows i d d.key (omega (arith, before, within)) in
      let second = get_or-map (λ (row : RowHead). row.key) rows j d d.key within in
      number_grows (get_or rows i d).key (get_or rows j d).key (are.each i d (omega (arith, before, within))).attitude (small_stage i d (omega (arith, before, within)))
      (subst (λ (k : Key). KeyIsBefore k (get_or rows j d).key) first (subst (λ (k : Key). KeyIsBefore (get_or keys i d.key) k) second one))

  -- rows with one number are one row
  pub same_row : (i j : ℕ) (d : RowHead) → i < length rows → j < length rows → key_place (get_or rows i d).key ≡ key_place (get_or rows j d).key → i ≡ j
  same_row i j d first second same = elim (cases_lt i j) [
    | inl before ↦ absurd (omega (arith, row_grows i j d before second, same))
    | inr after ↦ elim (cases_lt j i) [
      | inl before ↦ absurd (omega (arith, row_grows j i d before first, same))
      | inr again ↦ omega (arith, after, again)
    ]
  ]

  pub number_within : (i : ℕ) (d : RowHead) → i < length rows → key_place (get_or rows i d).key < key_count job
  number_within i d within =
      let row = are.each i d within in
      omega (arith, row.mask, row.attitude, small_stage i d within)

  -- a row's number is at most that of its key
  pub row_number : (i : ℕ) (d : RowHead) → i < length rows → i ≤ key_place (get_or rows i d).key
  row_number zero d within = omega arith
  row_number (suc i) d within = omega (arith, row_number i d (omega (arith, within)), row_grows i (suc i) d (omega arith) within)

  pub few_keys : key_count job ≤ 589824
  few_keys = let less : 2 ^ bend_count job ≤ 2 ^ 12 = pow_mono (few_bends job is_job) in omega (arith, less)

  -- there are at most as many rows as keys
  pub few_rows : length rows ≤ 589824
  few_rows = elim (cases_lt 0 (length rows)) [
    | inl some ↦
        let last : length rows - 1 < length rows = omega (arith, some) in
        omega (arith, some, row_number (length rows - 1) no_row last, number_within (length rows - 1) no_row last, few_keys)
    | inr none ↦ omega (arith, none)
  ]

  -- the row at a place
  pub row_at : (key : Key) (worth : Worth) (i : ℕ) → slice_get (worths_in rows) i ≡ Some (key, worth) → (i < length rows) × ((d : RowHead) → get_or rows i d ≡ record { key = key; worth = worth })
  row_at key worth i at =
      let pair : RowHead → Key × Worth = λ row. (row.key, row.worth) in
      let inside : i < length (map pair rows) = slice_get_within (map pair rows) i (key, worth) at in
      let within : i < length rows = rw (length-map rows pair) at inside in (
        within,
        λ d.
            let read = sym (get_or-map pair rows i d (key, worth) within) ∙ get_or_from_slice_get (map pair rows) i (key, worth) (key, worth) at in
            λ j. record { key = (read j).0; worth = (read j).1 },
      )

  -- a row of a key, with its place
  pub row_of : (key : Key) (worth : Worth) → HaveRow rows key worth → (i : ℕ) × (i < length rows) × ((d : RowHead) → get_or rows i d ≡ record { key = key; worth = worth })
  row_of key worth (i, at) = let found = row_at key worth i at in (i, found.0, found.1)

  -- the rows have each of their rows
  pub have_row : (i : ℕ) (d : RowHead) → i < length rows → HaveRow rows (get_or rows i d).key (get_or rows i d).worth
  have_row i d within =
      let pair : RowHead → Key × Worth = λ row. (row.key, row.worth) in
      (i, slice_get-map pair rows i ∙ rw (slice_get-get_or rows i d within) refl)

  -- two rows of one key are one
  pub one_row : (key : Key) (a b : Worth) → HaveRow rows key a → HaveRow rows key b → a ≡ b
  one_row key a b first second =
      let x = row_of key a first in
      let y = row_of key b second in
      let number : key_place (get_or rows x.0 no_row).key ≡ key_place (get_or rows y.0 no_row).key =
      ap (λ (row : RowHead). key_place row.key) (x.2 no_row)
      ∙ sym (ap (λ (row : RowHead). key_place row.key) (y.2 no_row)) in
      let place = same_row x.0 y.0 no_row x.1 y.1 number in
      ap (λ (row : RowHead). row.worth) (sym (x.2 no_row) ∙ (ap (λ (i : ℕ). get_or rows i no_row) place ∙ y.2 no_row))
