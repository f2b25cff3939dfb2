use Rattle.std.proofs.Common.{◌∙◌, refl, arith}
use Rattle.std.proofs.lemmas.List.{length-set}
use Rattle.cert_merge.proofs.SettledWorths.{IsFirstOf, filled_none, filled_on, firsts_all}
use Rattle.cert_merge.proofs.settled_sets.first_reasons.Goals as goal

pub loop-number-init : goal.loop-number-init
loop-number-init c = record { count = refl; filled = filled_none (IsFirstOf c.args.job.now c.args.mask) 144; strokes = refl }

pub loop-number-preserved : goal.loop-number-preserved
loop-number-preserved c =
    let number = c.loop-number.number in
    let reasons = c.loop-number.reasons in
    let count = c.loop-number.invariant.count in
    let less = c.loop-number-test.true in
    let few = c.action_count-number-end.ensures.few in
    let P = IsFirstOf c.args.job.now c.args.mask in
    record {
      count = length-set reasons c.from.result c.first_reason_of.result ∙ count;
      filled = rw c.from.ensures (filled_on P number reasons c.first_reason_of.result (omega (arith, count, less, few)) c.first_reason_of.ensures.reason c.loop-number.invariant.filled);
      strokes = c.first_reason_of.ensures.strokes ∙ c.loop-number.invariant.strokes;
    }

pub returns-clause-reasons : goal.returns-clause-reasons
returns-clause-reasons c =
    firsts_all c.args.job.now c.args.mask c.loop-number.number c.loop-number.reasons (let end = c.loop-number-test.false in let count = c.action_count-number-end.ensures.value in omega (arith, end, count)) c.loop-number.invariant.filled
