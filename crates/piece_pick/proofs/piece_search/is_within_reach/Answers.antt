use Rattle.std.proofs.Common.{◌+◌, pos, ◌-ℤ◌, get_or, take, FitsSigned, w64, to_z, rules, arith}
use Rattle.std.proofs.lemmas.Int.{ints, to_z-of_z}
use Rattle.piece_pick.specs.Choice.{total}
use Rattle.piece_pick.proofs.Drawn.{total_more, sum_moves}
use Rattle.piece_pick.proofs.piece_search.is_within_reach.Goals as goal

pub loop-i-preserved : goal.loop-i-preserved
loop-i-preserved c =
    let supply = c.args.supply.now in
    let left = to_z w64 c.loop-i.left-bits in
    let x = get_or supply c.loop-i.i (pos 0) in
    let fits : FitsSigned w64 x = search rules in
    let less : FitsSigned w64 (left -ℤ x) = search rules in
    let more = total_more supply c.loop-i.i (pos 0) c.loop-i-test.true in
    simp to_z-of_z (record {
      sum = sum_moves (total (take c.loop-i.i supply)) x (total (take (c.loop-i.i + 1) supply)) left (left -ℤ x) c.args.rest.now c.loop-i.invariant.sum more (omega (arith, ints));
      some = search rules;
      few = omega (arith, c.loop-i.invariant.few);
    })
