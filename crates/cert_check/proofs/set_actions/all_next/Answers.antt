use Rattle.std.proofs.Common.{Option, None, ◌∙◌, arith, length-set}
use Rattle.std.proofs.lemmas.List.{length-replicate}
use Rattle.cert_check.specs.declared.set_actions.NextKey.{NextKey}
use Rattle.cert_check.proofs.ActionLemmas.{next_on}
use Rattle.cert_check.proofs.set_actions.all_next.Goals as goal

pub loop-number-init : goal.loop-number-init
loop-number-init c = record { count = length-replicate {A = Option NextKey} 144 None; below = λ number less. absurd (omega (arith, less)) }

pub loop-number-preserved : goal.loop-number-preserved
loop-number-preserved c =
    let number = c.loop-number.number in
    let nexts = c.loop-number.next in
    let count = c.loop-number.invariant.count in
    let within = c.loop-number-test.true in
    let end = c.action_count-number-end.ensures.few in
    rw c.from.ensures (record {
      count = length-set nexts number c.next_of.result ∙ count;
      below = next_on c.args.job.now c.args.mask number nexts c.next_of.result (omega (arith, count, within, end)) c.next_of.ensures c.loop-number.invariant.below;
    })

pub returns : goal.returns
returns c = λ number less.
    c.loop-number.invariant.below number (let end = c.loop-number-test.false in let count = c.action_count-number-end.ensures.value in omega (arith, less, end, count))
