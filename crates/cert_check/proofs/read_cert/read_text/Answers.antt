use Rattle.std.proofs.Common.{◌≡◌, ◌++◌, [], false, Result, Ok, Err, refl, rules, sym, subst}
use Rattle.cert_check.specs.declared.fault.CheckFault.{CheckFault}
use Rattle.cert_check.specs.declared.read_cert.ReadCert.{ReadCert}
use Rattle.cert_check.specs.ReadCert.{ReadAnswer}
use Rattle.cert_check.proofs.ReadLemmas.{piece_goes, whole_answer}
use Rattle.cert_check.proofs.read_cert.read_text.Goals as goal

pub returns-in_err-read : goal.returns-in_err-read
returns-in_err-read c =
    let kind = c.args.kind in
    let text = c.args.text.now in
    let fault = c.in_err-read.field-0.0 in
    let stopped : c.from_residual.result ≡ Err fault = search rules in
    subst (λ (r : Result ReadCert CheckFault). ReadAnswer kind text r) (sym stopped)
    (whole_answer kind text c.new-reader.result.rest.now (Err fault) c.new-reader.ensures.rest (c.in_err-read.ensures.refused fault [] refl (λ _. refl)))

pub returns-in_err-read_piece : goal.returns-in_err-read_piece
returns-in_err-read_piece c =
    let kind = c.args.kind in
    let text = c.args.text.now in
    let own = c.new-reader.result.rest.now in
    let fault = c.in_err-read_piece.field-0.0 in
    let failed = c.from_residual-in_err-read_piece.ensures in
    let stopped : c.from_residual-in_err-read_piece.result ≡ Err fault = search (rules, failed.0, failed.1) in
    subst (λ (r : Result ReadCert CheckFault). ReadAnswer kind text r) (sym stopped)
    (whole_answer kind text own (Err fault) c.new-reader.ensures.rest (c.in_err-read_piece.ensures.answer kind (own ++ []) [] (λ _. refl) (c.in_ok-read.ensures.read [])))

pub returns : goal.returns
returns c =
    let kind = c.args.kind in
    let own = c.new-reader.result.rest.now in
    let next = c.read_piece.new in
    let more = c.in_ok-read_piece.field-0 in
    whole_answer kind c.args.text.now own (Ok next.read) c.new-reader.ensures.rest
    (piece_goes (Ok more) more false kind (own ++ []) next.read next.reader.place (next.reader.rest.now ++ []) refl (c.in_ok-read_piece.ensures.last refl)
    (c.in_ok-read_piece.ensures.answer kind (own ++ []) [] (λ _. refl) (c.in_ok-read.ensures.read [])))
