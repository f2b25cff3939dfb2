use Rattle.std.proofs.Common.{List, refl, sym, ◌∙◌, ap, subst}
use Rattle.brake_base.specs.declared.stroke.Step.{Step}
use Rattle.cert_check.specs.Checking.{AreParts, IsTrueOf, verdict_of}
use Rattle.cert_check.proofs.Truth.{is_good, claim_is_true}
use Rattle.cert_check.proofs.Deciding.{text_refused, text_accepted}
use Rattle.cert_check.proofs.verdict.check_read.Goals as goal

pub returns-in-Ok-clause-answer : goal.returns-in-Ok-clause-answer
returns-in-Ok-clause-answer c = λ text cert written are.
    let read = c.args.read in
    let own = subst (λ (s : List Step). AreParts read.job read.claim s read.rows.items read.notes cert) (sym c.as_slice.ensures.value) are in
    text_accepted text read.job cert written (c.in-Ok.ensures cert own) (record { verdict = c.verdict_of.result; job = read.job }) refl (c.verdict_of.ensures ∙ ap verdict_of are.parts.claim_is)

pub returns-in-Ok-clause-truth : goal.returns-in-Ok-clause-truth
returns-in-Ok-clause-truth c =
    let read = c.args.read in
    let job = read.job in
    let cert = c.requires.0 in
    let are = c.requires.1 in
    let own = subst (λ (s : List Step). AreParts job read.claim s read.rows.items read.notes cert) (sym c.as_slice.ensures.value) are in
    let valid = are.parts.valid in
    let form = are.parts.form in
    let answer = c.in-Ok.ensures cert own in
    subst (IsTrueOf job) (sym (c.verdict_of.ensures ∙ ap verdict_of are.parts.claim_is)) (claim_is_true job valid cert form (is_good job valid cert form answer.0 answer.1))

pub returns-clause-answer : goal.returns-clause-answer
returns-clause-answer c = λ text cert written are.
    let read = c.args.read in
    let own = subst (λ (s : List Step). AreParts read.job read.claim s read.rows.items read.notes cert) (sym c.as_slice.ensures.value) are in
    text_refused text read.job cert written c.in-Err.fault (c.in-Err.ensures cert own)
