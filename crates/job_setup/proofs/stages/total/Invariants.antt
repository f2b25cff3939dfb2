use Rattle.std.proofs.Common.{◌≡◌, ◌*◌, take, pos, ◌≤ℤ◌}
use Rattle.job_setup.specs.Stages.{total}
use Rattle.job_setup.proofs.stages.total.Given as goal

abbrev pub invariant-loop-piece : goal.invariant-loop-piece
invariant-loop-piece l = (l.total ≡ total (take l.piece-index l.pieces)) × (pos 0 ≤ℤ l.total) × (l.total ≤ℤ pos (10000000 * l.piece-index))
