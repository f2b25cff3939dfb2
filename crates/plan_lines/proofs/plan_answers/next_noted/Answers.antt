use Rattle.plan_lines.specs.PlanItem.{placed}
use Rattle.plan_lines.proofs.PlanItems.{note_next}
use Rattle.plan_lines.proofs.plan_answers.next_noted.Goals as goal

pub returns-in_ok-item-in-Notes-clause-next : goal.returns-in_ok-item-in-Notes-clause-next
returns-in_ok-item-in-Notes-clause-next c =
    let read = c.in_ok-note-in-Notes in
    let taken = c.in_ok-item-in-Notes in
    note_next c.args.place.now c.in-Notes.key c.in-Notes.least read.note (placed (taken.item, taken.section)) c.args.text.now read.rest.now c.in-Notes.is read.ensures.known read.ensures.cut taken.ensures.placed
