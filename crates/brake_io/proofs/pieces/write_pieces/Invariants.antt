use Rattle.std.proofs.Common.{◌≡◌, ◌+◌, ◌++◌, [], false, if◌then◌else◌, length, List, ℕ}
use Rattle.std.specs.Io.KnownBytes.{Appends}
use Rattle.brake_io.proofs.pieces.write_pieces.Given as goal

-- what the writer took is what is gone from the text; and nothing is left after the last piece
abbrev pub invariant-loop-is_more : goal.invariant-loop-is_more
invariant-loop-is_more g l = (done : List ℕ) × (done ++ g.P.Pieces.left l.pieces ≡ g.P.Pieces.left l.initial.pieces)
    × Appends (g.W.Write.contents l.initial.to) (g.W.Write.contents l.to) done × (l.is_more ≡ false → g.P.Pieces.left l.pieces ≡ [])

abbrev pub decreases-loop-is_more : goal.decreases-loop-is_more
decreases-loop-is_more g l = length (g.P.Pieces.left l.pieces) + (if l.is_more then 1 else 0)
