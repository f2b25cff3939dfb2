use Rattle.std.proofs.lemmas.Result.{err_from_is_err_and}
use Rattle.cert_merge.proofs.RowProving.{text_refused, table_open, table_proved}
use Rattle.cert_merge.proofs.TableExact.{text_gives}
use Rattle.cert_merge.proofs.proved.prove_text.Goals as goal

pub prove_rows-requires : goal.prove_rows-requires
prove_rows-requires c = (c.in_ok-read.ensures.0, c.in_ok-read.ensures.1.parts)

pub returns-in_err-read-clause-answer : goal.returns-in_err-read-clause-answer
returns-in_err-read-clause-answer c =
    let answer = err_from_is_err_and c.from_residual.result c.from_residual.ensures.1 in
    rw (answer.1, answer.2) (text_refused c.args.text.now c.in_err-read.field-0.0 c.in_err-read.ensures)

pub returns-in_err-prove_rows-clause-answer : goal.returns-in_err-prove_rows-clause-answer
returns-in_err-prove_rows-clause-answer c =
    let is = c.in_ok-read.ensures in
    let answer = err_from_is_err_and c.from_residual-in_err-prove_rows.result c.from_residual-in_err-prove_rows.ensures.1 in
    rw (answer.1, answer.2) (table_open c.args.text.now c.in_ok-read.read is.0 is.1 c.in_err-prove_rows.field-0.0 (c.in_err-prove_rows.ensures.answer is.0 is.1.parts))

pub returns-clause-answer : goal.returns-clause-answer
returns-clause-answer c =
    let is = c.in_ok-read.ensures in
    table_proved c.args.text.now c.in_ok-read.read is.0 is.1 _ (c.in_ok-prove_rows.ensures.answer is.0 is.1.parts)

pub returns-in_err-read-clause-written : goal.returns-in_err-read-clause-written
returns-in_err-read-clause-written c = text_gives c.args.text.now

pub returns-in_err-prove_rows-clause-written : goal.returns-in_err-prove_rows-clause-written
returns-in_err-prove_rows-clause-written c = text_gives c.args.text.now

pub returns-clause-written : goal.returns-clause-written
returns-clause-written c = text_gives c.args.text.now
