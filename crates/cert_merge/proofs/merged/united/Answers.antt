use Rattle.std.proofs.Common.{◌∙◌, arith}
use Rattle.std.proofs.lemmas.List.{length-set}
use Rattle.cert_merge.proofs.Arrays.{united_more, united_all}
use Rattle.cert_merge.proofs.merged.united.Goals as goal

pub loop-action-preserved : goal.loop-action-preserved
loop-action-preserved c =
    let so_far = c.loop-action.invariant in
    let count = so_far.count in
    let test = c.loop-action-test.true in
    record {
      count = length-set c.loop-action.both c.loop-action.action c.first_of.result ∙ so_far.count;
      joined = united_more c.loop-action.both c.args.first.now c.args.second.now c.loop-action.action c.first_of.result (omega (arith, count, test)) so_far.joined c.first_of.ensures;
    }

pub returns : goal.returns
returns c = united_all c.loop-action.both c.args.first.now c.args.second.now c.loop-action.action c.loop-action.invariant.count c.told-first c.told-second c.loop-action-test.false c.loop-action.invariant.joined
