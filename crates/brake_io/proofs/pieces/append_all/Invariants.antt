use Rattle.std.proofs.Common.{◌≡◌, ◌+◌, ◌++◌, [], false, if◌then◌else◌, length}
use Rattle.brake_io.proofs.pieces.append_all.Given as goal

-- what is there, and then what is left, is as it was; and nothing is left after the last piece
abbrev pub invariant-loop-is_more : goal.invariant-loop-is_more
invariant-loop-is_more g l = (l.out.items ++ g.P.Pieces.left l.pieces ≡ l.initial.out.items ++ g.P.Pieces.left l.initial.pieces)
    × (l.is_more ≡ false → g.P.Pieces.left l.pieces ≡ [])

abbrev pub decreases-loop-is_more : goal.decreases-loop-is_more
decreases-loop-is_more g l = length (g.P.Pieces.left l.pieces) + (if l.is_more then 1 else 0)
