use Rattle.std.proofs.Common.{subst}
use Rattle.cert_check.specs.RowNotes.{note_at, IsFirstUnsound}
use Rattle.cert_check.proofs.NoteLemmas.{unsound_on}
use Rattle.cert_check.proofs.row_notes.RowNotes.test.Goals as goal

pub returns-in-Some-clause-unsound : goal.returns-in-Some-clause-unsound
returns-in-Some-clause-unsound c = λ rows notes at first.
    unsound_on c.args.job.now rows notes (note_at c.args.row c.args.action c.args.reason) c.args.self.now.unsound (λ none. let some = c.in-Some.is in cc) first

pub returns-in-None-clause-unsound : goal.returns-in-None-clause-unsound
returns-in-None-clause-unsound c = λ rows notes at first. c.test_next.ensures.unsound rows notes at (subst (IsFirstUnsound c.args.job.now rows notes) c.in-None.is first)
