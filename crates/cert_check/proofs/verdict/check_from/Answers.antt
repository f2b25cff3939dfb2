use Rattle.std.proofs.Common.{[], ◌++◌, Err, refl}
use Rattle.cert_check.proofs.Accepting.{accepts_good}
use Rattle.cert_check.proofs.CertTexts.{cert_written}
use Rattle.cert_check.proofs.Deciding.{parts_read, text_unread}
use Rattle.cert_check.proofs.verdict.check_from.Goals as goal

pub check_read-requires : goal.check_read-requires
check_read-requires g c =
    let from = c.in-Ok.ensures in
    let is = from.2 [] (λ over. refl) in
    (is.cert, parts_read (from.0 ++ c.read_text_from.new.window.unread ++ []) c.in-Ok.read is)

pub returns-in-Ok-clause-answer : goal.returns-in-Ok-clause-answer
returns-in-Ok-clause-answer g c =
    let from = c.in-Ok.ensures in (
      from.0,
      from.1,
      λ last may.
          let text = from.0 ++ c.read_text_from.new.window.unread ++ last in
          let is = from.2 last may in
          c.check_read.ensures.answer text is.cert (cert_written text c.in-Ok.read is) (parts_read text c.in-Ok.read is),
    )

pub returns-in-Ok-clause-accepts : goal.returns-in-Ok-clause-accepts
returns-in-Ok-clause-accepts g c =
    let from = c.in-Ok.ensures in (
      from.0,
      from.1,
      λ last may.
          let text = from.0 ++ c.read_text_from.new.window.unread ++ last in
          let is = from.2 last may in
          accepts_good text c.check_read.result (c.check_read.ensures.answer text is.cert (cert_written text c.in-Ok.read is) (parts_read text c.in-Ok.read is)),
    )

pub returns-in-Err-clause-answer : goal.returns-in-Err-clause-answer
returns-in-Err-clause-answer g c =
    let from = c.in-Err.ensures in
    (from.0, from.1, λ last may. text_unread (from.0 ++ c.read_text_from.new.window.unread ++ last) c.in-Err.fault (from.2 last may))

pub returns-in-Err-clause-accepts : goal.returns-in-Err-clause-accepts
returns-in-Err-clause-accepts g c =
    let from = c.in-Err.ensures in (
      from.0,
      from.1,
      λ last may.
          let text = from.0 ++ c.read_text_from.new.window.unread ++ last in
          accepts_good text (Err c.in-Err.fault) (text_unread text c.in-Err.fault (from.2 last may)),
    )
