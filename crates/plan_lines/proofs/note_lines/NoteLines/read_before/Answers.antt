use Rattle.std.proofs.Common.{[], ◌∷◌, sym, ◌∙◌}
use Rattle.std.proofs.lemmas.List.{append_assoc}
use Rattle.plan_lines.proofs.PlanItems.{known_alike}
use Rattle.plan_lines.proofs.note_lines.NoteLines.read_before.Goals as goal

pub returns : goal.returns
returns c =
    let own = c.self.inside.facts in
    let facts = c.args.facts.now in
    let note = c.in_ok-note.note in
    let same = c.is_of.ensures.0 c.if-not-is_of.false in
    let is = c.self.invariant.are_read c.in_ok-number.number note (sym c.in_ok-note.ensures) in
    record {
      known = known_alike own.bends own.stages facts.bends facts.stages note (sym same.0) (sym same.1) is.known;
      cut = record {
        whole = c.in_ok-rest.ensures.some ∙ append_assoc note.line.now (10 ∷ []) c.in_ok-rest.rest.now;
        alone = is.known.alone;
      };
    }
