use Rattle.std.proofs.Common.{ℕ, ◌+◌, ◌++◌, ap, sym, subst, ◌∙◌, append_assoc, List, arith}
use Rattle.plan_lines.specs.NoteLines.{known_reasons, AreLines, line_of}
use Rattle.plan_lines.proofs.NoteRuns.{among, lines_more}
use Rattle.plan_lines.proofs.note_run.take_lines.Goals as goal

pub loop-note-init : goal.loop-note-init
loop-note-init c = record { few = c.requires.count; is_run = λ least text is. is }

pub with-run-requires : goal.with-run-requires
with-run-requires c = let stages = c.requires.few.stages in
    among c.args.facts.now c.in-Some.note 12 8 c.requires.few.bends (omega (arith, stages)) (c.in-Some.ensures.0).known

pub action_number-requires-clause-action : goal.action_number-requires-clause-action
action_number-requires-clause-action c = among c.args.facts.now c.in-Some.note 12 c.args.facts.now.stages c.requires.few.bends (omega arith) (c.in-Some.ensures.0).known

pub loop-note-preserved : goal.loop-note-preserved
loop-note-preserved c =
    let facts = c.args.facts.now in
    let stands = c.in-Some.ensures.0 in
    let few = c.loop-note.invariant.few in
    let from = stands.from_least in
    let value = c.action_number.ensures.value in
    let run = c.loop-note.run in
    record {
      few = omega (arith, few, from, value);
      is_run = λ least text before.
          let is = c.loop-note.invariant.is_run least text before in
          let line = line_of c.in-Some.note in
          record {
            front = is.front ++ line;
            is_text = is.is_text ∙ ap (λ (t : List ℕ). is.front ++ t) c.in-Some.ensures.1 ∙ sym (append_assoc is.front line c.in-Some.rest.now);
            are = subst (λ (n : ℕ). AreLines facts (known_reasons facts.stages c.args.notes.now) c.args.leads least (is.front ++ line) c.with-run.result (run.count + 1) (n + 1)) (sym value)
                (lines_more facts c.args.notes.now c.args.leads least run.count run.least is.front run.notes c.with-run.result c.in-Some.note c.requires.few c.with-run.ensures.places stands is.are);
          };
    }
