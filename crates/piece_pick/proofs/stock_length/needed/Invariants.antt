use Rattle.std.proofs.Common.{◌≡◌, ◌≤◌, ◌*◌, ◌^◌, take}
use Rattle.piece_pick.specs.Stock.{needed}
use Rattle.piece_pick.proofs.stock_length.needed.Given as goal

abbrev pub invariant-loop-want : goal.invariant-loop-want
invariant-loop-want l = (l.total ≡ needed l.tool (take l.want-index l.wants)) × (l.total ≤ 2 ^ 63 * l.want-index)
