use Rattle.row_pool.specs.Index.{HasNoRow}
use Rattle.row_pool.proofs.index.Index.first_in.Given as goal

abbrev pub invariant-loop-place : goal.invariant-loop-place
invariant-loop-place l = HasNoRow l.self l.mask.0 l.from l.place
