use Rattle.std.proofs.Common.{◌≢◌, arith}
use Rattle.std.proofs.lemmas.List.{length-map}
use Rattle.part_file.specs.Part.{part_data}
use Rattle.part_file.proofs.Walks.{begins, moves_inward, moves_onward, meets}
use Rattle.part_file.proofs.tree.path.Goals as goal

pub loop-from-init : goal.loop-from-init
loop-from-init c =
    rw (c.new-inward.ensures, c.new-onward.ensures) (begins (part_data c.args.part.now) c.requires.fit c.args.a c.args.b (rw length-map c.requires.a) (rw length-map c.requires.b))

pub loop-from-preserved-then-from-to : goal.loop-from-preserved-then-from-to
loop-from-preserved-then-from-to c =
    let found = c.parent-from.ensures.is in
    rw (c.push.ensures.items, ← found.2)
    (moves_inward (part_data c.args.part.now).faces c.args.a c.args.b c.loop-from.from c.loop-from.to found.0 c.loop-from.inward.items c.loop-from.onward.items c.if-from-to.true found.1 (rw found.2 c.parent-from.ensures.earlier) c.loop-from.invariant)

pub loop-from-preserved : goal.loop-from-preserved
loop-from-preserved c =
    let found = c.parent-to.ensures.is in
    let apart : c.loop-from.from ≢ c.loop-from.to = c.loop-from-test.true in
    rw (c.push-else-from-to.ensures.items, ← found.2)
    (moves_onward (part_data c.args.part.now).faces c.args.a c.args.b c.loop-from.from c.loop-from.to found.0 c.loop-from.inward.items c.loop-from.onward.items (omega arith) found.1 (rw found.2 c.parent-to.ensures.earlier) c.loop-from.invariant)

pub returns : goal.returns
returns c =
    rw c.connected.ensures
    (meets (part_data c.args.part.now).faces c.args.a c.args.b c.loop-from.from c.loop-from.to c.loop-from.inward.items c.loop-from.onward.items c.loop-from-test.false c.loop-from.invariant)
