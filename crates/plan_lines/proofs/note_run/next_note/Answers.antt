use Rattle.std.proofs.Common.{ℕ, get_or, None, sym, ap, ◌∙◌, arith}
use Rattle.plan_lines.proofs.PlanItems.{known_among}
use Rattle.plan_lines.proofs.note_run.next_note.Goals as goal

pub contains-requires-clause-first : goal.contains-requires-clause-first
contains-requires-clause-first c =
    let note = c.in_ok-note.note in
    let held = c.requires.held c.in_ok-number.number note (sym c.in_ok-note.ensures) in
    (known_among note c.args.facts.now.bends c.args.facts.now.stages held.known).first

pub contains-requires-clause-last : goal.contains-requires-clause-last
contains-requires-clause-last c =
    let note = c.in_ok-note.note in
    let held = c.requires.held c.in_ok-number.number note (sym c.in_ok-note.ensures) in
    let last = (known_among note c.args.facts.now.bends c.args.facts.now.stages held.known).last in
    let few = c.requires.few.bends in
    omega (arith, last, few)

pub returns : goal.returns
returns c =
    let read = sym c.in_ok-note.ensures in
    let held = c.requires.held c.in_ok-number.number c.in_ok-note.note read in
    let at = held.at in
    let from = c.if-number-run.false in (
      record {
        known = held.known;
        is_held = ap (λ (n : ℕ). get_or c.args.notes.now n None) at ∙ read;
        from_least = omega (arith, from, at);
        is_lead = sym c.contains.ensures ∙ c.if-not-contains.false;
      },
      c.in_ok-rest.ensures.some,
    )
