-- The notes of a certificate, one after the other.
use Rattle.std.proofs.Common.{◌≡◌, inl, inr, ℕ, ◌+◌, ◌<◌, ◌≤◌, List, [], ◌∷◌, ◌++◌, length, Some, None, arith, refl, sym, ◌∙◌, ap, subst}
use Rattle.std.specs.Prelude.{Contains, All}
use Rattle.std.proofs.lemmas.Bool.{cases_lt}
use Rattle.std.proofs.lemmas.List.Elements.{All-nil, Contains-append_left, Contains-push, All-push}
use Rattle.std.proofs.lemmas.List.Quantifiers.{all_pairs_push}
use Rattle.std.proofs.lemmas.Option.{slice_get_cases, slice_get_past, same_Some, none-some}
use Rattle.brake_base.specs.declared.reason.Reason.{Reason}
use Rattle.row_pool.specs.Rows.{Pool, PoolRow, IsPool, reason_at}
use Rattle.plan_lines.specs.declared.note.Note.{Note}
use Rattle.bb_search.specs.CertRows.{reason_in, note_order, IsNoteOf, AreNotes}

-- past its actions a row has no reason
reason_past : (pool : Pool) → IsPool pool → (row action : ℕ) → pool.actions ≤ action → reason_at pool row action ≡ None
reason_past pool is_pool row action past = elim (slice_get_cases pool.rows row).1 [
  | inl here ↦
      let places : length here.0.reasons ≡ pool.actions = subst (λ (r : PoolRow). length r.reasons ≡ pool.actions) here.3 (is_pool.places row here.0 here.1) in
      let none = slice_get_past here.0.reasons action (omega (arith, places, past)) in
      rw (here.2, none) refl
  | inr none ↦ rw none.1 refl
]

module _ (pool : Pool) (orders : List ℕ) where
  pub no_notes : AreNotes pool orders (note_order 0 0) []
  no_notes = record {
    each = λ place action reason low early is. absurd (omega (arith, early));
    only = All-nil (IsNoteOf pool orders 0);
    ascending = λ i j d before within. absurd (omega (arith, within));
  }

  later : (until more : ℕ) (notes : List Note) → until ≤ more → All (IsNoteOf pool orders until) notes → All (IsNoteOf pool orders more) notes
  later until more notes less only k d within =
      let is = only k d within in
      record { action = is.action; early = let early = is.early in omega (arith, early, less); reason = is.reason }

  -- from one place to a later one, where there is no reason in between
  pub notes_skip : (until more : ℕ) (notes : List Note) → until ≤ more →
      ((place action : ℕ) → action < 256 → until ≤ note_order place action → note_order place action < more → reason_in pool orders place action ≡ None) →
      AreNotes pool orders until notes → AreNotes pool orders more notes
  notes_skip until more notes less none are = record {
    each = λ place action reason low early is. elim (cases_lt (note_order place action) until) [
      | inl before ↦ are.each place action reason low before is
      | inr after ↦ absurd (none-some reason (sym (none place action low after early) ∙ is))
    ];
    only = later until more notes less are.only;
    ascending = are.ascending;
  }

  -- from one action of a row to a later one, where it has no reason in between
  pub notes_up_to : (place from action : ℕ) (notes : List Note) → from ≤ action → action ≤ 256 → ((number : ℕ) → from ≤ number → number < action → reason_in pool orders place number ≡ None) →
      AreNotes pool orders (note_order place from) notes → AreNotes pool orders (note_order place action) notes
  notes_up_to place from action notes later few none = notes_skip (note_order place from) (note_order place action) notes (omega (arith, later))
      (λ other number low late early.
      let here : place ≡ other = omega (arith, low, late, early, few) in
      subst (λ (n : ℕ). reason_in pool orders n number ≡ None) here (none number (omega (arith, here, late)) (omega (arith, here, early))))

  module _ (place action : ℕ) (few : action < 256) (notes : List Note) (are : AreNotes pool orders (note_order place action) notes) where
    -- between an action and the next there is no other
    here_alone : (other number : ℕ) → number < 256 → note_order place action ≤ note_order other number → note_order other number < note_order place (action + 1) → (place ≡ other) × (action ≡ number)
    here_alone other number low late early = (omega (arith, low, late, early, few), omega (arith, low, late, early, few))

    -- the action has a reason, which is noted
    pub notes_more : (reason : Reason) → reason_in pool orders place action ≡ Some reason →
        AreNotes pool orders (note_order place (action + 1)) (notes ++ record { row = place; action = action; reason = reason } ∷ [])
    notes_more reason is =
        let note : Note = record { row = place; action = action; reason = reason } in
        record {
          each = λ other number found low early has. elim (cases_lt (note_order other number) (note_order place action)) [
            | inl before ↦ Contains-append_left notes (note ∷ []) (record { row = other; action = number; reason = found }) (are.each other number found low before has)
            | inr late ↦
                let here = here_alone other number low late early in
                let same : reason ≡ found = same_Some reason found (sym is ∙ (ap (λ (n : ℕ). reason_in pool orders n action) here.0 ∙ (ap (reason_in pool orders other) here.1 ∙ has))) in
                subst (λ (n : ℕ). Contains (notes ++ note ∷ []) (record { row = n; action = number; reason = found })) here.0
                (subst (λ (n : ℕ). Contains (notes ++ note ∷ []) (record { row = place; action = n; reason = found })) here.1
                (subst (λ (r : Reason). Contains (notes ++ note ∷ []) (record { row = place; action = action; reason = r })) same (Contains-push notes note)))
          ];
          only = All-push (IsNoteOf pool orders (note_order place (action + 1))) notes note (later (note_order place action) (note_order place (action + 1)) notes (omega arith) are.only)
              (record { action = few; early = omega arith; reason = is });
          ascending = all_pairs_push (λ (a b : Note). note_order a.row a.action < note_order b.row b.action) notes note are.ascending (λ k d within. (are.only k d within).early);
        }

  -- all actions of a row were looked at
  pub notes_of_row : IsPool pool → (place : ℕ) (notes : List Note) → pool.actions ≤ 256 → AreNotes pool orders (note_order place pool.actions) notes → AreNotes pool orders (note_order (place + 1) 0) notes
  notes_of_row is_pool place notes few = notes_skip (note_order place pool.actions) (note_order (place + 1) 0) notes (omega (arith, few))
      (λ other number low late early.
      let here : place ≡ other = omega (arith, low, late, early, few) in
      reason_past pool is_pool _ number (omega (arith, here, late)))
