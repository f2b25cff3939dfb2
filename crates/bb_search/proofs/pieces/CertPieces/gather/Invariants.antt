use Rattle.std.proofs.Common.{◌≡◌, ◌+◌, ◌++◌, [], false, if◌then◌else◌, length}
use Rattle.bb_search.proofs.pieces.CertPieces.gather.Given as goal

-- what is there, and then what is left, is the text; and nothing is left after the last piece
abbrev pub invariant-loop-is_more : goal.invariant-loop-is_more
invariant-loop-is_more l = (l.text.items ++ l.self ≡ l.initial.self) × (l.is_more ≡ false → l.self ≡ [])

abbrev pub decreases-loop-is_more : goal.decreases-loop-is_more
decreases-loop-is_more l = length l.self + (if l.is_more then 1 else 0)
