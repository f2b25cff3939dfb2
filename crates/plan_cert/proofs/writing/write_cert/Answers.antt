use Rattle.std.proofs.Common.{◌≡◌, ℕ, ◌^◌, ◌<◌, List, length, sym, subst}
use Rattle.plan_cert.specs.Cert.{cert_data}
use Rattle.plan_cert.specs.CertText.{cert_text2}
use Rattle.plan_cert.proofs.CertTexts.{cert_written}
use Rattle.plan_cert.proofs.TextSizes.{cert_length}
use Rattle.plan_cert.proofs.writing.write_cert.Goals as goal

pub put_rows-requires-clause-order : goal.put_rows-requires-clause-order
put_rows-requires-clause-order c = rw c.as_slice-3.ensures.value c.requires.rows.note_order

pub returns-clause-text : goal.returns-clause-text
returns-clause-text c =
    cert_written c.args.job.now (cert_data c.args.cert.now) c.stages.result
    c.new-out.result.items c.put_word.new.out.items c.put_job.new.out.items c.put_claim.new.out.items c.put_steps.new.out.items c.put_rows.new.out.items c.put_word-2.new.out.items
    c.stages.ensures.value c.new-out.ensures.items c.in_ok-put_word.ensures.ok c.in_ok-put_job.ensures.text c.in_ok-put_claim.ensures
    (rw c.as_slice.ensures.value at c.in_ok-put_steps.ensures) (rw (c.as_slice-2.ensures.value, c.as_slice-3.ensures.value) at c.in_ok-put_rows.ensures) c.in_ok-put_word-2.ensures.ok

pub returns-clause-short : goal.returns-clause-short
returns-clause-short c =
    let job = c.args.job.now in
    let cert = cert_data c.args.cert.now in
    let same : c.put_word-2.new.out.items ≡ cert_text2 job cert = returns-clause-text c in
    subst (λ (text : List ℕ). length text < 2 ^ 30) (sym same) (cert_length job cert c.in_ok-put_job.ensures.valid c.requires)
