-- The merge of well formed tables is well formed, and says of each key what both say together.
use Rattle.std.proofs.Common.{◌≡◌, inl, inr, ℕ, ◌+◌, ◌*◌, ◌<◌, IsTrue, Bool, true, false, [], ◌∷◌, length, get_or, Option, Some, None, refl, sym, ◌∙◌, ap, subst, arith}
use Rattle.std.specs.Prelude.{◌⊎◌, if◌then◌else◌}
use Rattle.std.proofs.lemmas.List.Elements.{All-nil}
use Rattle.brake_base.specs.declared.stroke.Key.{Key}
use Rattle.brake_base.specs.declared.stroke.Worth.TheVariants.{Blocked}
use Rattle.brake_base.specs.declared.reason.Reason.{Reason}
use Rattle.brake_base.specs.Reasons.{reason_place}
use Rattle.job_setup.specs.Setup.{JobData, bend_count, stage_count}
use Rattle.job_setup.specs.StrokeGroup.{is_lead}
use Rattle.handling_cost.proofs.Actions.{few_bends}
use Rattle.cert_lines.specs.declared.row_head.RowHead.{RowHead}
use Rattle.plan_lines.specs.declared.note.Note.{Note}
use Rattle.cert_lines.specs.Lines.{action_at}
use Rattle.plan_lines.specs.LinesFit.{IsReasonInRange, IsRow}
use Rattle.plan_cert.specs.WellFormed.{IsNote, AreRows}
use Rattle.plan_lines.proofs.Actions.{few_actions}
use Rattle.plan_cert.proofs.RowOrder.{few_stages}
use Rattle.cert_merge.specs.Table.{TableData, IsTable}
use Rattle.cert_merge.specs.Entries.{Settled, said_of, stands_before, first_reason, united, joined}
use Rattle.cert_merge.specs.Merged.{reason_noted, IsMerged}
use Rattle.cert_merge.specs.MergeSteps.{Rows, most_actions, merge_rows, table_said, head_of, heads, flat, written}
use Rattle.cert_merge.proofs.Joining.{Compared, lower, equal, higher, compared, joined_lower, joined_higher, joined_equal}
use Rattle.cert_merge.proofs.Merging.{Each, Ascending, merged_said, merged_ascends, merged_each}
use Rattle.cert_merge.proofs.Flat.{Fits, all_map, flat_says}
use Rattle.cert_merge.proofs.FlatForm.{IsOf, OfReasons, flat_ordered, flat_each, heads_ordered, heads_each, said_ascends, said_each}
use Rattle.cert_merge.proofs.OneTable.{noted_is}

few : (job : JobData) (t : TableData) → IsTable job t → (action : ℕ) → action < 2 * bend_count job * stage_count job → action < 144
few job t is action less =
    let below = few_actions action (bend_count job) (stage_count job) (few_bends job is.valid) less in
    let stages = few_stages job is.valid in
    omega (arith, below, stages)

-- a reason against an action, by its number, at a key of the job
pub record IsNoteOf (job : JobData) (key : Key) (number : ℕ) (reason : Reason) : Type 0 where
  pub action : number < 2 * bend_count job * stage_count job
  pub range : IsReasonInRange job reason
  pub lead : IsTrue (is_lead job key.mask (action_at (stage_count job) number).bend)

-- what may be said of a key
pub record IsSaidOf (job : JobData) (key : Key) (said : Settled) : Type 0 where
  pub row : IsRow job (head_of (key, said))
  pub notes : (action : ℕ) (reason : Reason) → said.reasons action ≡ Some reason → IsNoteOf job key action reason
  pub fits : Fits key said

-- a reason of two that are joined is one of them
pub one_reason : (a b : Option Reason) (reason : Reason) → first_reason a b ≡ Some reason → (a ≡ Some reason) ⊎ (b ≡ Some reason)
one_reason None b reason e = inr e
one_reason (Some a) None reason e = inl e
one_reason (Some a) (Some b) reason e = by_test (stands_before (reason_place b) (reason_place a)) e
  where
    by_test : (t : Bool) → (if t then Some b else Some a) ≡ Some reason → (Some a ≡ Some reason) ⊎ (Some b ≡ Some reason)
    by_test true e = inr e
    by_test false e = inl e

said_joined : (job : JobData) (key : Key) (a b : Settled) → IsSaidOf job key a → IsSaidOf job key b → IsSaidOf job key (joined a b)
said_joined job key a b first second = by_worth (compared a b)
  where
    both : IsSaidOf job key (united a b)
    both = record {
      row = first.row;
      notes = λ action reason e. elim (one_reason (a.reasons action) (b.reasons action) reason e) [ inl one ↦ first.notes action reason one | inr two ↦ second.notes action reason two ];
      fits = λ action past. (λ i. first_reason (first.fits action past i) (second.fits action past i));
    }

    by_worth : Compared a b → IsSaidOf job key (joined a b)
    by_worth (lower e) = subst (IsSaidOf job key) (sym (joined_lower a b e)) second
    by_worth (higher e) = subst (IsSaidOf job key) (sym (joined_higher a b e)) first
    by_worth (equal e f) = subst (IsSaidOf job key) (sym (joined_equal a b e f)) both

fits_none : (o : Option Reason) → ((reason : Reason) → o ≡ Some reason → ⊥) → o ≡ None
fits_none None never = refl
fits_none (Some reason) never = absurd (never reason refl)

-- what a well formed table says of its keys
pub table_says : (job : JobData) (t : TableData) → IsTable job t → Each (IsSaidOf job) (table_said t)
unfolding most_actions
table_says job t is = said_each (IsSaidOf job) t.notes 0 t.rows says
  where
    note_at : (k : ℕ) (d : RowHead) → k < length t.rows → (action : ℕ) (reason : Reason) → reason_noted t.notes (0 + k) action ≡ Some reason → IsNoteOf job (get_or t.rows k d).key action reason
    note_at k d within action reason e =
        let note : Note = record { row = 0 + k; action = action; reason = reason } in
        let at = noted_is t.notes (0 + k) action reason e in
        let form : IsNote job t.rows note = subst (IsNote job t.rows) at.2 (is.rows.each_note at.0 note at.1) in
        let none : 0 + k ≡ k = omega arith in
        record {
          action = form.action;
          range = form.reason;
          lead = subst (λ (n : ℕ). IsTrue (is_lead job (get_or t.rows n d).key.mask (action_at (stage_count job) action).bend)) none (form.lead d);
        }

    says : (k : ℕ) (d : RowHead) → k < length t.rows → IsSaidOf job (get_or t.rows k d).key (record { worth = (get_or t.rows k d).worth; reasons = reason_noted t.notes (0 + k) })
    says k d within = record {
      row = is.rows.each_row k d within;
      notes = note_at k d within;
      fits = λ action past. fits_none (reason_noted t.notes (0 + k) action) (λ reason e. let less = few job t is action (note_at k d within action reason e).action in omega (arith, less, past));
    }

module _ (job : JobData) (a b : TableData) (is_a : IsTable job a) (is_b : IsTable job b) where
  each : Each (IsSaidOf job) (merge_rows (table_said a) (table_said b))
  each = merged_each (IsSaidOf job) (said_joined job) (table_said a) (table_said b) (table_says job a is_a) (table_says job b is_b)

  up : Ascending (merge_rows (table_said a) (table_said b))
  up = merged_ascends (table_said a) (table_said b) (said_ascends a.notes 0 a.rows is_a.rows.row_order) (said_ascends b.notes 0 b.rows is_b.rows.row_order)

  each_kept : (P Q : Key → Settled → Type 0) → ((key : Key) (said : Settled) → P key said → Q key said) → (rows : Rows) → Each P rows → Each Q rows
  each_kept P Q to [] all = tt
  each_kept P Q to (row ∷ rows) all = (to row.0 row.1 all.0, each_kept P Q to rows all.1)

  pub merged_fits : Each Fits (merge_rows (table_said a) (table_said b))
  merged_fits = each_kept (IsSaidOf job) Fits (λ key said is. is.fits) (merge_rows (table_said a) (table_said b)) each

  -- the merge is well formed
  pub merged_form : AreRows job (heads (merge_rows (table_said a) (table_said b))) (flat 0 (merge_rows (table_said a) (table_said b)))
  merged_form =
      let rows = merge_rows (table_said a) (table_said b) in
      let Q : RowHead → ℕ → Reason → Type 0 = λ head. IsNoteOf job head.key in
      record {
        each_row = heads_each (IsRow job) rows (each_kept (IsSaidOf job) (λ key said. IsRow job (head_of (key, said))) (λ key said is. is.row) rows each);
        row_order = heads_ordered rows up;
        each_note = all_map (IsOf Q (heads rows)) (IsNote job (heads rows)) (flat 0 rows)
            (λ note is. record { row = is.within; action = (is.each (head_of_none note)).action; reason = (is.each (head_of_none note)).range; lead = λ d. (is.each d).lead })
            (flat_each Q 0 rows [] refl (each_kept (IsSaidOf job) (OfReasons Q) (λ key said is. is.notes) rows each));
        note_order = flat_ordered 0 rows;
      }
    where
      head_of_none : Note → RowHead
      head_of_none note = record { key = record { mask = record { 0 = 0 }; attitude = 0; stage = 0 }; worth = Blocked }

  -- and says of each key what both say of it together
  pub is_merged : IsMerged a b (written (merge_rows (table_said a) (table_said b)))
  is_merged key =
      let rows = merge_rows (table_said a) (table_said b) in
      ap (λ (r : Rows). said_of key r) (flat_says 0 rows [] (All-nil (λ (note : Note). note.row < 0)) (each_kept (IsSaidOf job) Fits (λ key said is. is.fits) rows each))
      ∙ merged_said key (table_said a) (table_said b) (said_ascends a.notes 0 a.rows is_a.rows.row_order) (said_ascends b.notes 0 b.rows is_b.rows.row_order)
