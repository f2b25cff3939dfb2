use Rattle.std.proofs.Common.{◌∙◌, ℕ, refl, sym, subst, arith}
use Rattle.brake_base.specs.Actions.{IsActionAmong}
use Rattle.row_text.proofs.ActionPlaces.{among_eight}
use Rattle.cert_merge.proofs.SetNotes.{no_notes, notes_same, notes_more, notes_all}
use Rattle.cert_merge.proofs.set_writer.set_reasons.Goals as goal
use Rattle.cert_merge.proofs.set_writer.set_reasons.Goals.{in-Some+in_ok-set_reason, in_default}

pub loop-number-init : goal.loop-number-init
loop-number-init c = record {
  mask = refl;
  told = no_notes c.args.reasons.now c.args.stages c.args.writer.now c.empty-notes.result c.requires.stages c.empty-notes.ensures.value;
}

pub set_reason-requires-clause-action : goal.set_reason-requires-clause-action
set_reason-requires-clause-action c = subst (λ (s : ℕ). IsActionAmong 12 s c.action_of-action.result) (sym c.loop-number.invariant.told.its_stages) c.action_of-action.ensures.action

pub set_reason-requires-clause-reason : goal.set_reason-requires-clause-reason
set_reason-requires-clause-reason c = (c.requires.reasons c.loop-number.number c.in-Some.reason (sym c.in-Some.ensures)).1

pub with-notes-requires : goal.with-notes-requires
with-notes-requires c = let few = c.requires.few in among_eight c.args.stages c.action_of-action.result (omega (arith, few)) c.action_of-action.ensures.action

pub loop-number-preserved : goal.loop-number-preserved
loop-number-preserved c =
    let number = c.loop-number.number in
    let reasons = c.args.reasons.now in
    let stages = c.args.stages in
    let before = c.loop-number.writer in
    let notes = c.loop-number.notes in
    let so_far = c.loop-number.invariant in
    elim c.match-reason_of.branch [
      | in-Some+in_ok-set_reason w ↦
          rw (w.writer-is, w.notes-is) (record {
            mask = w.set_reason.ensures.mask ∙ so_far.mask;
            told = notes_more reasons stages number before w.set_reason.new.self notes w.with-notes.result w.action_of-action.result w.in-Some.reason c.requires.few w.action_of-action.ensures.action w.action_of-action.ensures.value
                (sym w.in-Some.ensures) w.set_reason.ensures.stages w.in_ok-set_reason.ensures.known w.in_ok-set_reason.ensures.reasons w.with-notes.ensures.places so_far.told;
          })
      | in_default w ↦
          rw (w.writer-is, w.notes-is) (record {
            mask = so_far.mask;
            told = notes_same reasons stages number before notes (sym c.reason_of.ensures ∙ w.in_default.is) so_far.told;
          })
    ]

pub returns-clause-notes : goal.returns-clause-notes
returns-clause-notes c = notes_all c.args.reasons.now c.args.stages c.loop-number.number c.loop-number.writer c.loop-number.notes c.requires.reasons (let end = c.loop-number-test.false in omega (arith, end)) c.loop-number.invariant.told
