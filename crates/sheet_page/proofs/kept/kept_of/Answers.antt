use Rattle.std.proofs.Common.{◌≡◌, ◌∙◌, ◌+◌, ◌-◌, ◌≤◌, ℕ, [], ◌∷◌, ◌++◌, length, take, drop, refl, sym, subst, arith}
use Rattle.std.proofs.lemmas.List.{length-take, length-drop}
use Rattle.handling_cost.proofs.Actions.{few_bends}
use Rattle.cert_lines.specs.declared.row_head.RowHead.{RowHead}
use Rattle.sheet_page.specs.declared.kept.Kept.{Kept}
use Rattle.sheet_page.specs.declared.kept.State.{State}
use Rattle.sheet_page.specs.Kept.{AreNotesAt, notes_between, state_data, IsStateOf, IsKept, HasFew}
use Rattle.sheet_page.proofs.KeptNotes.{row_tried}
use Rattle.sheet_page.proofs.RowStates.{later, lesser_now, between_is, next_new, next_old}
use Rattle.sheet_page.proofs.kept.kept_of.Goals as goal
use Rattle.sheet_page.proofs.kept.kept_of.Goals.{then-not-is_mask_before, else-not-is_mask_before}

pub loop-i-init : goal.loop-i-init
loop-i-init c = record {
  within = omega arith;
  few = c.nothing-kept.ensures.few;
  kept = ([], c.nothing-kept.ensures.kept c.args.job.now c.args.notes.now, refl);
  lesser = λ k d low. absurd (omega (arith, low));
  from = λ k d past inside. omega arith;
}

pub loop-i-preserved : goal.loop-i-preserved
loop-i-preserved c =
    let job = c.args.job.now in
    let rows = c.args.rows.now in
    let notes = c.args.notes.now in
    let i = c.loop-i.i in
    let begin = c.loop-i.begin in
    let end = c.end_of_notes-end.result in
    let ends = c.end_of_notes-end.ensures in
    let was = c.loop-i.invariant in
    let row = c.index-rows-i.result in
    let low = c.loop-i-test.true in
    let order : begin ≤ end = ends.later in
    let short : end ≤ length notes = ends.within in
    let now_from = later notes i begin end order short c.requires.order was.lesser was.from ends.row ends.other in
    let now_lesser = lesser_now notes i begin end order short c.requires.order was.lesser was.from ends.row ends.other in
    let between = between_is notes i begin end order short c.requires.order was.lesser was.from ends.row ends.other in
    let so_far = was.kept.0 in
    elim c.if-not-is_mask_before.branch [
      | then-not-is_mask_before w ↦
          let tried : AreNotesAt job row.key.mask (notes_between notes begin end) =
          subst (λ (r : RowHead). AreNotesAt job r.key.mask (notes_between notes begin end)) (sym c.index-rows-i.is)
          (row_tried job rows notes i begin end row (few_bends job c.recall_valid.ensures) order short c.requires.notes ends.row) in
          let state : State = record { mask = row.key.mask; begin = begin; end = end } in
          let is : IsStateOf job notes state = record { begins = order; ends = short; tried = tried } in
          let new = sym c.is_mask_before.ensures ∙ w.if-not-is_mask_before.true in
          let taken = length-take (end - begin) (drop begin notes) in
          let left = length-drop begin notes in
          let many : begin + length (take (end - begin) (drop begin notes)) ≡ end = omega (arith, taken, left, order, short) in
          record {
            within = omega (arith, w.begin-is, short);
            few = subst (λ (n : ℕ). HasFew (i + 1) n c.if-not-is_mask_before.kept) (many ∙ sym w.begin-is) (subst (λ (k : Kept). HasFew (i + 1) (begin + length (take (end - begin) (drop begin notes))) k) (sym w.kept-is) (w.add.ensures.few i begin was.few));
            kept = (
              so_far ++ state_data notes state ∷ [],
              subst (λ (k : Kept). IsKept job notes (so_far ++ state_data notes state ∷ []) k) (sym w.kept-is) (w.add.ensures.kept notes so_far is refl was.kept.1),
              next_new notes rows i row c.loop-i.before c.if-not-is_mask_before.before so_far _ low c.index-rows-i.is w.before-is was.kept.2 begin end new between,
            );
            lesser = λ k d inside. now_lesser k d (omega (arith, inside, w.begin-is));
            from = λ k d past inside. now_from k d (omega (arith, past, w.begin-is)) inside;
          }
      | else-not-is_mask_before w ↦
          let old = sym c.is_mask_before.ensures ∙ w.if-not-is_mask_before.false in
          let few : HasFew (i + 1) end c.loop-i.kept = record {
            states = omega (arith, was.few.states);
            ends = was.few.ends;
            counts = λ b k. let one = was.few.counts b k in omega (arith, one, order);
          } in
          record {
            within = omega (arith, w.begin-is, short);
            few = subst (λ (n : ℕ). HasFew (i + 1) n c.if-not-is_mask_before.kept) (sym w.begin-is) (subst (λ (k : Kept). HasFew (i + 1) end k) (sym w.kept-is) few);
            kept = (
              so_far,
              subst (λ (k : Kept). IsKept job notes so_far k) (sym w.kept-is) was.kept.1,
              next_old notes rows i row c.loop-i.before c.if-not-is_mask_before.before so_far _ low c.index-rows-i.is w.before-is was.kept.2 old,
            );
            lesser = λ k d inside. now_lesser k d (omega (arith, inside, w.begin-is));
            from = λ k d past inside. now_from k d (omega (arith, past, w.begin-is)) inside;
          }
    ]
