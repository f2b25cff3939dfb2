use Rattle.std.proofs.Common.{refl}
use Rattle.cert_merge.specs.declared.row_texts.RowText.{RowText}
use Rattle.cert_merge.specs.declared.row_texts.RowTexts.{RowTexts}
use Rattle.cert_merge.proofs.RowCuts.{none_uncut, none_read, row_taken}
use Rattle.cert_merge.proofs.row_texts.RowTexts.take.Goals as goal

pub returns-in_err-line-clause-taken : goal.returns-in_err-line-clause-taken
returns-in_err-line-clause-taken c = λ job rows left. rw c.from_residual.ensures (none_uncut job c.args.self.now rows c.args.self.now left (c.in_err-line.ensures.none refl))

pub returns-in_err-head-clause-taken : goal.returns-in_err-head-clause-taken
returns-in_err-head-clause-taken c = λ job rows left.
    rw c.from_residual-in_err-head.ensures (none_read job c.args.self.now c.in_ok-line.line.now c.in_ok-line.behind.now c.in_ok-line.ensures.some rows c.args.self.now left c.in_err-head.ensures)

pub returns-clause-taken : goal.returns-clause-taken
returns-clause-taken c = λ job rows left.
    let row : RowText = record { head = c.in_ok-head.head; lines = c.split_at.result.0; notes = c.split_notes.result.0 } in
    let new : RowTexts = record { bends = c.args.self.now.bends; stages = c.args.self.now.stages; rest = c.split_notes.result.1; notes = c.split_notes.result.0 } in
    row_taken job c.args.self.now c.in_ok-line.line.now c.in_ok-line.behind.now c.in_ok-line.ensures.some c.in_ok-head.head row new c.split_notes.result.1.now
    c.in_ok-head.ensures refl c.split_notes.ensures.notes c.split_notes.ensures.whole c.split_at.ensures.front refl refl refl refl rows left
