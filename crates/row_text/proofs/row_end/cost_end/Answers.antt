use Rattle.std.proofs.Common.{rules, ◌<◌, ◌+◌, ◌-◌, ◌%◌, ◌^◌, refl, arith}
use Rattle.row_text.proofs.RowEnds.{digit_more, cost_ends}
use Rattle.row_text.proofs.row_end.cost_end.Goals as goal

pub loop-rest-preserved : goal.loop-rest-preserved
loop-rest-preserved c =
    let l = c.loop-rest in
    let fits : l.rest < 2 ^ 64 = search rules in
    digit_more c.args.cost l.rest l.at c.from.result (48 + l.rest % 10) l.bytes _ fits (omega (arith, c.loop-rest-test.true)) c.from.ensures refl l.invariant

pub returns : goal.returns
returns c =
    let l = c.loop-rest in
    cost_ends c.args.cost l.rest l.at c.from-2.result c.from-3.result (48 + l.rest) (l.at - 2) (18 - l.at) l.bytes _ refl (omega (arith, c.loop-rest-test.false)) c.from-2.ensures c.from-3.ensures refl refl refl l.invariant
