use Rattle.std.proofs.Common.{◌∙◌, ◌+◌, ℕ, List, sym, ap, subst}
use Rattle.std.specs.Prelude.{count_by}
use Rattle.std.proofs.lemmas.Bool.{eq-eqb, ne_eqb}
use Rattle.std.proofs.lemmas.List.{length_push}
use Rattle.plan_lines.specs.declared.note.Note.{Note}
use Rattle.sheet_page.specs.Kept.{StateData, state_data, notes_of, refusal_count, is_of, dead_ends, AreDeadEnds}
use Rattle.sheet_page.specs.Left.{strokes_left}
use Rattle.sheet_page.proofs.KeptStates.{count_more, ends_more, ends_kept}
use Rattle.sheet_page.proofs.kept.Kept.add.Goals as goal

pub returns-then-strokes_left-eq0-clause-kept : goal.returns-then-strokes_left-eq0-clause-kept
returns-then-strokes_left-eq0-clause-kept c = λ all states is told are.
    let job = c.args.job.now in
    let state = c.args.state in
    let one = state_data all state in
    let none = ap (strokes_left job state.mask) (sym told) ∙ sym c.strokes_left.ensures.value ∙ c.if-strokes_left-eq0.true in
    record {
      flat = c.flat_state-self.ensures job all states is are.flat;
      states = ap (λ (n : ℕ). n + 1) are.states ∙ sym (length_push states one);
      counts = λ b k.
          c.add_all.ensures b k ∙ ap (λ (n : ℕ). n + count_by (is_of job b k) c.args.notes.now) (are.counts b k)
          ∙ ap (λ (ns : List Note). refusal_count job states b k + count_by (is_of job b k) ns) told ∙ sym (count_more job states one b k);
      ends = subst (λ (s : List StateData). AreDeadEnds job all s c.add.new.self)
          (sym (ends_more job states one (eq-eqb (strokes_left job state.mask (notes_of all state)) 0 none)))
          (c.add.ensures.dead_ends job all (dead_ends job states) is are.ends);
    }

pub returns-else-strokes_left-eq0-clause-kept : goal.returns-else-strokes_left-eq0-clause-kept
returns-else-strokes_left-eq0-clause-kept c = λ all states is told are.
    let job = c.args.job.now in
    let state = c.args.state in
    let one = state_data all state in
    record {
      flat = c.flat_state-self.ensures job all states is are.flat;
      states = ap (λ (n : ℕ). n + 1) are.states ∙ sym (length_push states one);
      counts = λ b k.
          c.add_all.ensures b k ∙ ap (λ (n : ℕ). n + count_by (is_of job b k) c.args.notes.now) (are.counts b k)
          ∙ ap (λ (ns : List Note). refusal_count job states b k + count_by (is_of job b k) ns) told ∙ sym (count_more job states one b k);
      ends = subst (λ (s : List StateData). AreDeadEnds job all s c.args.self.now.dead_ends)
          (sym (ends_kept job states one (ne_eqb (strokes_left job state.mask (notes_of all state)) 0
          (λ none. c.if-strokes_left-eq0.false (c.strokes_left.ensures.value ∙ ap (strokes_left job state.mask) told ∙ none)))))
          are.ends;
    }
