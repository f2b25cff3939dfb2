use Rattle.std.proofs.Common.{◌<◌, length, sym, get_or, add-one, pos, arith}
use Rattle.std.proofs.lemmas.List.{get_or_default}
use Rattle.piece_pick.specs.declared.want.Want.{Want}
use Rattle.piece_pick.proofs.Begun.{taken_nothing, taken_more}
use Rattle.piece_pick.proofs.stock.taken.Goals as goal

pub loop-i-init : goal.loop-i-init
loop-i-init c = (sym (taken_nothing c.args.tool c.args.piece.now c.args.wants.now), omega arith)

pub loop-i-preserved : goal.loop-i-preserved
loop-i-preserved c =
    let no_want : Want = record { punch = 0; die = 0; length = pos 0 } in
    let want = get_or c.args.wants.now c.loop-i.i no_want in
    let within : c.loop-i.i < length c.args.picked.now = c.loop-i-test.true in
    let inside : c.loop-i.i < length c.args.wants.now = omega (arith, c.requires.each) in
    let more = taken_more c.args.tool c.args.piece.now c.args.wants.now c.args.picked.now c.loop-i.i c.index-picked-i.result want within c.requires.each
    (get_or_default c.args.wants.now c.loop-i.i want no_want inside) (sym c.index-picked-i.is) in
    (rw (add-one c.loop-i.i) (omega (arith, more, c.taken_by-taken.ensures.value, c.loop-i.invariant.0)), omega (arith, c.taken_by-taken.ensures.few, c.loop-i.invariant.1))
