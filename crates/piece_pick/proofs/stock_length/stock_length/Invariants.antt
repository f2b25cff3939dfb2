use Rattle.std.proofs.Common.{◌≡◌, ◌≤◌, ◌*◌, ◌^◌, take}
use Rattle.piece_pick.specs.Stock.{stock_length}
use Rattle.piece_pick.proofs.stock_length.stock_length.Given as goal

abbrev pub invariant-loop-section : goal.invariant-loop-section
invariant-loop-section l = (l.total ≡ stock_length (take l.section-index l.sections)) × (l.total ≤ 2 ^ 63 * 65535 * l.section-index)
