use Rattle.std.proofs.Common.{Err}
use Rattle.cert_check.proofs.Accepting.{accepts_good}
use Rattle.cert_check.proofs.CertTexts.{cert_written}
use Rattle.cert_check.proofs.Deciding.{parts_read, text_unread}
use Rattle.cert_check.proofs.verdict.check.Goals as goal

pub check_read-requires : goal.check_read-requires
check_read-requires c =
    let is = c.in-Ok.ensures in
    (is.cert, parts_read c.args.text.now c.in-Ok.read is)

pub returns-in-Ok-clause-answer : goal.returns-in-Ok-clause-answer
returns-in-Ok-clause-answer c =
    let text = c.args.text.now in
    let is = c.in-Ok.ensures in
    c.check_read.ensures.answer text is.cert (cert_written text c.in-Ok.read is) (parts_read text c.in-Ok.read is)

pub returns-in-Ok-clause-accepts : goal.returns-in-Ok-clause-accepts
returns-in-Ok-clause-accepts c = accepts_good c.args.text.now c.check_read.result (returns-in-Ok-clause-answer c)

pub returns-in-Err-clause-answer : goal.returns-in-Err-clause-answer
returns-in-Err-clause-answer c = text_unread c.args.text.now c.in-Err.fault c.in-Err.ensures

pub returns-in-Err-clause-accepts : goal.returns-in-Err-clause-accepts
returns-in-Err-clause-accepts c = accepts_good c.args.text.now (Err c.in-Err.fault) (text_unread c.args.text.now c.in-Err.fault c.in-Err.ensures)
