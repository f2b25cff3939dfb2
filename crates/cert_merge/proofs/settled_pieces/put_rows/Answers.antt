use Rattle.std.proofs.Common.{◌+◌, ◌<◌, ◌≤◌, arith}
use Rattle.cert_merge.proofs.PieceTexts.{goes_on, can_still}
use Rattle.cert_merge.proofs.settled_pieces.put_rows.Goals as goal

pub loop-stages-preserved : goal.loop-stages-preserved
loop-stages-preserved c =
    let so_far = c.loop-stages.invariant in
    let within = so_far.rows.within in
    let differ = c.if-next-end.false in
    let more : c.loop-stages.next + 1 ≤ c.args.end = omega (arith, within, differ) in
    let on : c.loop-stages.next ≤ c.loop-stages.next + 1 = omega arith in
    let less : c.loop-stages.next < c.args.end = omega (arith, within, differ) in
    record {
      begun = so_far.begun;
      goes_on = can_still c.args.settled.now c.args.stages c.loop-stages.next c.args.end (c.loop-stages.next + 1) c.loop-stages.writer c.put_place.new.writer so_far.goes_on on more (λ later. c.in_ok-put_place.ensures.writer);
      rows = goes_on c.args.settled.now c.args.stages c.args.end c.args.from c.loop-stages.next c.args.out.now.items c.loop-stages.out.items c.put_place.new.out.items less so_far.rows c.in_ok-put_place.ensures.text;
    }
