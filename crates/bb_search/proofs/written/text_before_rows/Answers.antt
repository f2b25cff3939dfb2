use Rattle.std.proofs.Common.{◌≡◌, ◌∙◌, arith}
use Rattle.plan_cert.specs.CertText.{cert_text2}
use Rattle.bb_search.specs.WrittenRows.{without_rows}
use Rattle.bb_search.proofs.WrittenLemmas.{cut_length, cut_text}
use Rattle.bb_search.proofs.written.text_before_rows.Goals as goal

pub overflow_sub-end : goal.overflow_sub-end
overflow_sub-end c =
    let job = c.args.job.now in
    let whole : c.in_ok-text.text.items ≡ cert_text2 job (without_rows c.args.claim c.args.steps.now.items) =
    c.in_ok-text.ensures.text ∙ (λ i. cert_text2 job (record { claim = c.args.claim; steps = c.copy_of.ensures i; rows = c.new.ensures.items i; notes = c.new-2.ensures.items i })) in
    omega (arith, cut_length job c.args.claim c.args.steps.now.items c.in_ok-text.text.items whole)

pub returns : goal.returns
returns c =
    let job = c.args.job.now in
    let whole : c.in_ok-text.text.items ≡ cert_text2 job (without_rows c.args.claim c.args.steps.now.items) =
    c.in_ok-text.ensures.text ∙ (λ i. cert_text2 job (record { claim = c.args.claim; steps = c.copy_of.ensures i; rows = c.new.ensures.items i; notes = c.new-2.ensures.items i })) in
    let count = cut_length job c.args.claim c.args.steps.now.items c.in_ok-text.text.items whole in
    c.truncate.ensures.items ∙ cut_text job c.args.claim c.args.steps.now.items c.in_ok-text.text.items whole _ (omega (arith, count))
