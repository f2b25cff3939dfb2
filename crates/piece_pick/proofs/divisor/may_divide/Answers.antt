use Rattle.std.specs.Prelude.{unsigned_abs}
use Rattle.piece_pick.proofs.Divided.{undivided, not_divided}
use Rattle.piece_pick.proofs.divisor.may_divide.Goals as goal

pub returns : goal.returns
returns c = λ other room.
    undivided c.args.supply.now c.common_divisor-divisor.result c.args.length.now room c.requires c.common_divisor-divisor.ensures.each
    (not_divided c.common_divisor-divisor.result c.length_of-whole.result (unsigned_abs c.args.length.now) c.length_of-whole.ensures other)
