use Rattle.std.proofs.Common.{[], ◌++◌, refl}
use Rattle.std.proofs.lemmas.Result.{err_from_is_err_and}
use Rattle.cert_merge.proofs.RowProving.{text_refused, table_open, table_proved}
use Rattle.cert_merge.proofs.proved.prove_text_from.Goals as goal

pub prove_rows-requires : goal.prove_rows-requires
prove_rows-requires g c =
    let from = c.in_ok-read.ensures in
    let is = from.2 [] (λ over. refl) in
    (is.0, is.1.parts)

pub returns-in_err-read-clause-answer : goal.returns-in_err-read-clause-answer
returns-in_err-read-clause-answer g c =
    let from = c.in_err-read.ensures in
    let answer = err_from_is_err_and c.from_residual.result c.from_residual.ensures.1 in (
      from.0,
      from.1,
      λ last may.
          rw (answer.1, answer.2) (text_refused (from.0 ++ c.read_rows_from.new.window.unread ++ last) c.in_err-read.field-0.0 (from.2 last may)),
    )

pub returns-in_err-prove_rows-clause-answer : goal.returns-in_err-prove_rows-clause-answer
returns-in_err-prove_rows-clause-answer g c =
    let from = c.in_ok-read.ensures in
    let answer = err_from_is_err_and c.from_residual-in_err-prove_rows.result c.from_residual-in_err-prove_rows.ensures.1 in (
      from.0,
      from.1,
      λ last may.
          let is = from.2 last may in
          rw (answer.1, answer.2)
          (table_open (from.0 ++ c.read_rows_from.new.window.unread ++ last) c.in_ok-read.read is.0 is.1 c.in_err-prove_rows.field-0.0 (c.in_err-prove_rows.ensures.answer is.0 is.1.parts)),
    )

pub returns-clause-answer : goal.returns-clause-answer
returns-clause-answer g c =
    let from = c.in_ok-read.ensures in (
      from.0,
      from.1,
      λ last may.
          let is = from.2 last may in
          table_proved (from.0 ++ c.read_rows_from.new.window.unread ++ last) c.in_ok-read.read is.0 is.1 _ (c.in_ok-prove_rows.ensures.answer is.0 is.1.parts),
    )
