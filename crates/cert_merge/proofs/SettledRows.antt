-- The rows of the keys of a range, one by one in the order of their keys.
use Rattle.std.proofs.Common.{◌≡◌, inl, inr, ℕ, ◌+◌, ◌*◌, ◌^◌, ◌<◌, ◌≤◌, Bool, true, false, [], ◌∷◌, ◌++◌, length, Option, Some, None, refl, sym, ◌∙◌, ap, subst, arith}
use Rattle.std.specs.Prelude.{All, if◌then◌else◌}
use Rattle.std.proofs.lemmas.Bool.{cases_lt, cases_eq}
use Rattle.std.proofs.lemmas.List.Elements.{All-nil}
use Rattle.std.proofs.lemmas.Option.{same_Some, none-some}
use Rattle.brake_base.specs.declared.stroke.Key.{Key}
use Rattle.brake_base.specs.declared.stroke.Worth.{Worth}
use Rattle.brake_base.specs.declared.stroke.Worth.TheVariants.{Blocked}
use Rattle.brake_base.specs.declared.reason.Reason.{Reason}
use Rattle.brake_base.specs.Keys.{is_key, KeyIsBefore}
use Rattle.brake_base.proofs.Keys.{key_is}
use Rattle.job_setup.specs.Setup.{JobData, bend_count, stage_count}
use Rattle.job_setup.specs.ValidJob.{IsJob}
use Rattle.handling_cost.specs.StepCost.{IsKeyOf}
use Rattle.handling_cost.specs.Plan.{IsReasonFor}
use Rattle.cert_lines.specs.declared.row_head.RowHead.{RowHead}
use Rattle.plan_lines.specs.declared.note.Note.{Note}
use Rattle.cert_lines.specs.Lines.{action_at}
use Rattle.plan_cert.specs.KeyPlaces.{key_place}
use Rattle.plan_lines.specs.LinesFit.{IsRow}
use Rattle.plan_cert.specs.WellFormed.{IsNote, AreRows}
use Rattle.plan_cert.proofs.ReasonRanges.{reason_ranged}
use Rattle.plan_cert.proofs.RowOrder.{few_stages, same_key}
use Rattle.cert_merge.specs.declared.settled_sets.SettledSets.{SettledSets}
use Rattle.cert_merge.specs.Table.{TableData}
use Rattle.cert_merge.specs.Entries.{Settled, said_of}
use Rattle.cert_merge.specs.Merged.{settled_at}
use Rattle.cert_merge.specs.MergeSteps.{Rows, most_actions, head_of, heads, flat, written, with_row}
use Rattle.cert_merge.specs.Settled.{IsFirstFor, IsSettledBy, IsInRange}
use Rattle.cert_merge.specs.Settling.{said_in, AreSettledBy, HasSets, IsAmong, IsKeyAt, SaysSettled}
use Rattle.cert_merge.proofs.Merging.{After, Ascending, Each, said_first, said_later}
use Rattle.cert_merge.proofs.Flat.{Fits, all_map, flat_says}
use Rattle.cert_merge.proofs.FlatForm.{IsOf, OfReasons, flat_ordered, flat_each, heads_ordered, heads_each}
use Rattle.cert_merge.proofs.MergedForm.{IsNoteOf, IsSaidOf}
use Rattle.cert_merge.proofs.Writing.{written_more}
use Rattle.cert_merge.proofs.TableChecking.{most_numbers}
use Rattle.cert_merge.proofs.SettledSets.{among_is}
use Rattle.cert_merge.proofs.SettledWorths.{settled_small}

-- ---- rows that ascend, and another behind them
each_kept : (P Q : Key → Settled → Type 0) → ((key : Key) (said : Settled) → P key said → Q key said) → (rows : Rows) → Each P rows → Each Q rows
each_kept P Q to [] all = tt
each_kept P Q to (row ∷ rows) all = (to row.0 row.1 all.0, each_kept P Q to rows all.1)

each_push : (P : Key → Settled → Type 0) (rows : Rows) (row : Key × Settled) → Each P rows → P row.0 row.1 → Each P (rows ++ row ∷ [])
each_push P [] row all here = (here, tt)
each_push P (r ∷ rows) row all here = (all.0, each_push P rows row all.1 here)

after_push : (key : Key) (rows : Rows) (row : Key × Settled) → After key rows → KeyIsBefore key row.0 → After key (rows ++ row ∷ [])
after_push key [] row after here = (here, tt)
after_push key (r ∷ rows) row after here = (after.0, after_push key rows row after.1 here)

ascending_push : (rows : Rows) (row : Key × Settled) → Ascending rows → Each (λ key said. KeyIsBefore key row.0) rows → Ascending (rows ++ row ∷ [])
ascending_push [] row up before = (tt, tt)
ascending_push (r ∷ rows) row up before = (after_push r.0 rows row up.0 before.0, ascending_push rows row up.1 before.1)

-- what is said of a key by rows holds of a row
pub said_among : (P : Key → Settled → Type 0) (key : Key) (said : Settled) (rows : Rows) → Each P rows → said_of key rows ≡ Some said → P key said
said_among P key said [] all e = absurd (none-some said e)
said_among P key said (row ∷ rows) all e = by_test (is_key row.0 key) refl e (said_among P key said rows all.1)
  where
    by_test : (b : Bool) → is_key row.0 key ≡ b → (if b then Some row.1 else said_of key rows) ≡ Some said → (said_of key rows ≡ Some said → P key said) → P key said
    by_test true is e later = subst (λ (k : Key). P k said) (key_is row.0 key is) (subst (P row.0) (same_Some row.1 said e) all.0)
    by_test false is e later = later e

said_push_other : (key : Key) (rows : Rows) (row : Key × Settled) → (row.0 ≡ key → ⊥) → said_of key (rows ++ row ∷ []) ≡ said_of key rows
said_push_other key [] row other = said_later key row [] other
said_push_other key (r ∷ rows) row other = ap (λ (o : Option Settled). if is_key r.0 key then Some r.1 else o) (said_push_other key rows row other)

said_push_new : (key : Key) (rows : Rows) (row : Key × Settled) → row.0 ≡ key → said_of key rows ≡ None → said_of key (rows ++ row ∷ []) ≡ Some row.1
said_push_new key [] row same none = said_first key row [] same
said_push_new key (r ∷ rows) row same none = by_test (is_key r.0 key) none (said_push_new key rows row same)
  where
    by_test : (b : Bool) → (if b then Some r.1 else said_of key rows) ≡ None → (said_of key rows ≡ None → said_of key (rows ++ row ∷ []) ≡ Some row.1) → (if b then Some r.1 else said_of key (rows ++ row ∷ [])) ≡ Some row.1
    by_test true e later = absurd (none-some r.1 (sym e))
    by_test false e later = later e

-- what isn't said by any row isn't said
said_nowhere : (key : Key) (rows : Rows) → ((said : Settled) → said_of key rows ≡ Some said → ⊥) → said_of key rows ≡ None
said_nowhere key rows never = by_said (said_of key rows) refl
  where
    by_said : (o : Option Settled) → said_of key rows ≡ o → said_of key rows ≡ None
    by_said None e = e
    by_said (Some said) e = absurd (never said e)

-- ---- rows that are written are a table's
pub rows_form : (job : JobData) (rows : Rows) → Ascending rows → Each (IsSaidOf job) rows → AreRows job (heads rows) (flat 0 rows)
rows_form job rows up each =
    let Q : RowHead → ℕ → Reason → Type 0 = λ head. IsNoteOf job head.key in
    record {
      each_row = heads_each (IsRow job) rows (each_kept (IsSaidOf job) (λ key said. IsRow job (head_of (key, said))) (λ key said is. is.row) rows each);
      row_order = heads_ordered rows up;
      each_note = all_map (IsOf Q (heads rows)) (IsNote job (heads rows)) (flat 0 rows)
          (λ note is. record { row = is.within; action = (is.each (none_of note)).action; reason = (is.each (none_of note)).range; lead = λ d. (is.each d).lead })
          (flat_each Q 0 rows [] refl (each_kept (IsSaidOf job) (OfReasons Q) (λ key said is. is.notes) rows each));
      note_order = flat_ordered 0 rows;
    }
  where
    none_of : Note → RowHead
    none_of note = record { key = record { mask = record { 0 = 0 }; attitude = 0; stage = 0 }; worth = Blocked }

-- and say what they said
pub rows_say : (job : JobData) (rows : Rows) → Each (IsSaidOf job) rows → (key : Key) → settled_at (written rows) key ≡ said_of key rows
rows_say job rows each key =
    ap (λ (r : Rows). said_of key r) (flat_says 0 rows [] (All-nil (λ (note : Note). note.row < 0)) (each_kept (IsSaidOf job) Fits (λ key said is. is.fits) rows each))

-- what is settled of a key may stand in a row
unfitted : (o : Option Reason) → ((reason : Reason) → o ≡ Some reason → ⊥) → o ≡ None
unfitted None never = refl
unfitted (Some reason) never = absurd (never reason refl)

pub noted_holds : (job : JobData) (proved : Key → Worth) (key : Key) (said : Settled) → IsSettledBy job proved key said → (action : ℕ) (reason : Reason) → said.reasons action ≡ Some reason → IsReasonFor job key.mask (action_at (stage_count job) action) reason
unfolding IsReasonFor
noted_holds job proved key said of action reason e = (subst (IsFirstFor job key.mask (action_at (stage_count job) action)) e ((of.noted action).here ((of.noted action).only reason e))).holds

pub settled_said : (job : JobData) → IsJob job → (proved : Key → Worth) (key : Key) (said : Settled) → IsKeyOf job key → key.mask.0 + 1 < 2 ^ bend_count job → IsSettledBy job proved key said → IsSaidOf job key said
unfolding most_actions
settled_said job is_job proved key said ranged open_mask of = record {
  row = record { mask = open_mask; attitude = ranged.attitude; stage = ranged.stage; worth = settled_small job proved key said.worth said.reasons of };
  notes = λ action reason e.
      let at = (of.noted action).only reason e in
      record {
        action = at.0;
        range = reason_ranged job is_job key.mask (action_at (stage_count job) action) reason (noted_holds job proved key said of action reason e);
        lead = at.1.lead;
      };
  fits = λ action past. unfitted (said.reasons action) (λ reason e.
      let less = ((of.noted action).only reason e).0 in
      let most = most_numbers job is_job in
      omega (arith, less, most, past));
}

-- ---- the rows of a range
-- a key of the range before the one of a number, with what is settled of it
pub record IsRowBefore (job : JobData) (low high : ℕ) (settled : SettledSets) (place : ℕ) (key : Key) (said : Settled) : Type 0 where
  pub range : IsInRange job low high key
  pub before : key_place key < place
  pub says : said_in settled key ≡ Some said

-- the table has the rows of the keys of the range before the one of a number
pub record AreRowsBefore (job : JobData) (low high : ℕ) (settled : SettledSets) (place : ℕ) (t : TableData) : Type 0 where
  pub rows : Rows
  pub written : t ≡ written rows
  pub up : Ascending rows
  pub each : Each (IsRowBefore job low high settled place) rows
  pub all : (key : Key) → IsKeyOf job key → low * 144 ≤ key_place key → key_place key < place → said_of key rows ≡ said_in settled key

pub none_before : (job : JobData) (low high : ℕ) (settled : SettledSets) (place : ℕ) (t : TableData) → place ≡ low * 144 → t ≡ written [] → AreRowsBefore job low high settled place t
none_before job low high settled place t at is = record { rows = []; written = is; up = tt; each = tt; all = λ key ranged from less. absurd (omega (arith, at, from, less)) }

-- the keys of the range are among those that are settled
pub range_among : (job : JobData) (low high : ℕ) (settled : SettledSets) → HasSets low high settled → (key : Key) → IsInRange job low high key → IsAmong settled key.mask
range_among job low high settled has key range =
    let first = range.first in
    let last = range.last in
    let top = has.top in
    let count = has.count in
    record { high = omega (arith, last, top); within = omega (arith, first, last, top, count) }

module _ (job : JobData) (is_job : IsJob job) (low high : ℕ) (settled : SettledSets) (has : HasSets low high settled) (below : high + 1 < 2 ^ bend_count job) where
  small_stage : (key : Key) → IsKeyOf job key → key.stage < 6
  small_stage key ranged = let stage = ranged.stage in let few = few_stages job is_job in omega (arith, stage, few)

  -- the keys of the range have the numbers from its first mask's to its last's
  pub in_range : (key : Key) → IsKeyOf job key → low * 144 ≤ key_place key → key_place key < (high + 1) * 144 → IsInRange job low high key
  in_range key ranged from less =
      let attitude = ranged.attitude in
      let stage = small_stage key ranged in
      record { of_job = ranged; first = omega (arith, from, attitude, stage); last = omega (arith, less, attitude, stage) }

  before_by_place : (a b : Key) → IsKeyOf job a → IsKeyOf job b → key_place a < key_place b → KeyIsBefore a b
  before_by_place a b in_a in_b less =
      let turn = in_a.attitude in
      let way = small_stage a in_a in
      let turn_b = in_b.attitude in
      let way_b = small_stage b in_b in
      elim (cases_lt a.mask.0 b.mask.0) [
        | inl before ↦ inl before
        | inr not ↦
            let mask : a.mask.0 ≡ b.mask.0 = omega (arith, not, less, turn, way, turn_b, way_b) in
            inr (
              mask,
              elim (cases_lt a.attitude b.attitude) [
                | inl before ↦ inl before
                | inr again ↦
                    let attitude : a.attitude ≡ b.attitude = omega (arith, again, less, mask, way, way_b) in
                    inr (attitude, inl (omega (arith, less, mask, attitude)))
              ],
            )
      ]

  wider : (place : ℕ) (key : Key) (said : Settled) → IsRowBefore job low high settled place key said → IsRowBefore job low high settled (place + 1) key said
  wider place key said row = let before = row.before in record { range = row.range; before = omega (arith, before); says = row.says }

  -- the row of the next number
  pub row_on : (place : ℕ) (t after : TableData) (key : Key) (row : Key × Settled) → low * 144 ≤ place → place < (high + 1) * 144 → IsKeyAt job place (Some key) → row.0 ≡ key → said_in settled key ≡ Some row.1
      → after ≡ with_row t row → AreRowsBefore job low high settled place t → AreRowsBefore job low high settled (place + 1) after
  row_on place t after key row from less at named says more so_far =
      let ranged = at.0 in
      let here = at.1 in
      let range = in_range key ranged (omega (arith, here, from)) (omega (arith, here, less)) in
      let new : IsRowBefore job low high settled (place + 1) key row.1 = record { range = range; before = omega (arith, here); says = says } in
      record {
        rows = so_far.rows ++ row ∷ [];
        written = more ∙ written_more so_far.rows row t so_far.written;
        up = ascending_push so_far.rows row so_far.up (each_kept (IsRowBefore job low high settled place) (λ k said. KeyIsBefore k row.0) earlier so_far.rows so_far.each);
        each = each_push (IsRowBefore job low high settled (place + 1)) so_far.rows row (each_kept (IsRowBefore job low high settled place) (IsRowBefore job low high settled (place + 1)) (wider place) so_far.rows so_far.each)
            (subst (λ (k : Key). IsRowBefore job low high settled (place + 1) k row.1) (sym named) new);
        all = λ k in_k start end. elim (cases_eq (key_place k) place) [
          | inl same ↦
              let one : row.0 ≡ k = named ∙ same_key key k ranged.attitude (small_stage key ranged) in_k.attitude (small_stage k in_k) (here ∙ sym same) in
              said_push_new k so_far.rows row one (said_nowhere k so_far.rows (λ said e.
              let before = (said_among (IsRowBefore job low high settled place) k said so_far.rows so_far.each e).before in
              omega (arith, before, same)))
              ∙ (sym says ∙ ap (said_in settled) (sym named ∙ one))
          | inr other ↦
              said_push_other k so_far.rows row (λ one. other (sym (ap key_place (sym named ∙ one)) ∙ here))
              ∙ so_far.all k in_k start (let no = other in omega (arith, end, no))
        ];
      }
    where
      earlier : (k : Key) (said : Settled) → IsRowBefore job low high settled place k said → KeyIsBefore k row.0
      earlier k said old =
          let before = old.before in
          let here = at.1 in
          subst (KeyIsBefore k) (sym named) (before_by_place k key old.range.of_job at.0 (omega (arith, before, here)))

  -- a number of no key of the job
  pub none_on : (place : ℕ) (t : TableData) → IsKeyAt job place None → AreRowsBefore job low high settled place t → AreRowsBefore job low high settled (place + 1) t
  none_on place t none so_far = record {
    rows = so_far.rows;
    written = so_far.written;
    up = so_far.up;
    each = each_kept (IsRowBefore job low high settled place) (IsRowBefore job low high settled (place + 1)) (wider place) so_far.rows so_far.each;
    all = λ k in_k start end. elim (cases_eq (key_place k) place) [
      | inl same ↦ absurd (none k in_k same)
      | inr other ↦ so_far.all k in_k start (let no = other in omega (arith, end, no))
    ];
  }

  -- nothing is settled outside the range
  outside : (key : Key) → IsKeyOf job key → (IsInRange job low high key → ⊥) → said_in settled key ≡ None
  outside key ranged out = by_said (said_in settled key) refl
    where
      by_said : (o : Option Settled) → said_in settled key ≡ o → said_in settled key ≡ None
      by_said None e = e
      by_said (Some said) e =
          let among = among_is settled key said e in
          let top = among.high in
          let within = among.within in
          let is_high = has.top in
          let count = has.count in
          absurd (out (record { of_job = ranged; first = omega (arith, top, within, is_high, count); last = omega (arith, top, is_high) }))

  may_stand : (proved : Key → Worth) → AreSettledBy job proved settled → (place : ℕ) (key : Key) (said : Settled) → IsRowBefore job low high settled place key said → IsSaidOf job key said
  may_stand proved are place key said row =
      let last = row.range.last in
      settled_said job is_job proved key said row.range.of_job (omega (arith, last, below)) (are key said row.range.of_job row.says)

  -- each note is of one of the rows
  pub notes_before : (proved : Key → Worth) → AreSettledBy job proved settled → (place : ℕ) (t : TableData) → AreRowsBefore job low high settled place t → All (λ note. note.row < length t.rows) t.notes
  notes_before proved are place t so_far =
      let form = rows_form job so_far.rows so_far.up (each_kept (IsRowBefore job low high settled place) (IsSaidOf job) (may_stand proved are place) so_far.rows so_far.each) in
      subst (λ (x : TableData). All (λ note. note.row < length x.rows) x.notes) (sym so_far.written) (λ k d within. (form.each_note k d within).row)

  pub all_said : (proved : Key → Worth) → AreSettledBy job proved settled → (place : ℕ) (t : TableData) → (high + 1) * 144 ≤ place → AreRowsBefore job low high settled place t → SaysSettled job low high settled t
  all_said proved are place t end so_far =
      let each : Each (IsSaidOf job) so_far.rows = each_kept (IsRowBefore job low high settled place) (IsSaidOf job) (may_stand proved are place) so_far.rows so_far.each in
      record {
        form = record { valid = is_job; rows = subst (λ (x : TableData). AreRows job x.rows x.notes) (sym so_far.written) (rows_form job so_far.rows so_far.up each) };
        same = λ key ranged. ap (λ (x : TableData). settled_at x key) so_far.written ∙ (rows_say job so_far.rows each key ∙ says key ranged);
        only = λ key said e. (said_among (IsRowBefore job low high settled place) key said so_far.rows so_far.each
            (sym (ap (λ (x : TableData). settled_at x key) so_far.written ∙ rows_say job so_far.rows each key) ∙ e)).range;
      }
    where
      says : (key : Key) → IsKeyOf job key → said_of key so_far.rows ≡ said_in settled key
      says key ranged = elim (cases_lt (key_place key) (low * 144)) [
        | inl early ↦
            let attitude = ranged.attitude in
            let stage = small_stage key ranged in
            said_nowhere key so_far.rows (λ said e. let first = (said_among (IsRowBefore job low high settled place) key said so_far.rows so_far.each e).range.first in omega (arith, early, first))
            ∙ sym (outside key ranged (λ range. let first = range.first in omega (arith, early, first)))
        | inr from ↦ elim (cases_lt (key_place key) ((high + 1) * 144)) [
          | inl less ↦ so_far.all key ranged from (omega (arith, less, end))
          | inr late ↦
              let attitude = ranged.attitude in
              let stage = small_stage key ranged in
              said_nowhere key so_far.rows (λ said e. let last = (said_among (IsRowBefore job low high settled place) key said so_far.rows so_far.each e).range.last in omega (arith, late, last, attitude, stage))
              ∙ sym (outside key ranged (λ range. let last = range.last in omega (arith, late, last, attitude, stage)))
        ]
      ]
