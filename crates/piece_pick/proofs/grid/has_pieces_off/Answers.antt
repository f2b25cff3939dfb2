use Rattle.piece_pick.proofs.OffGrid.{few_counted}
use Rattle.piece_pick.proofs.grid.has_pieces_off.Goals as goal

pub returns-then-pieces_off-wants_off : goal.returns-then-pieces_off-wants_off
returns-then-pieces_off-wants_off c =
    λ _. few_counted c.args.wants.now c.args.want.now c.args.supply.now _ c.pieces_off.result c.wants_off.result c.if-pieces_off-wants_off.true c.pieces_off.ensures c.wants_off.ensures
