use Rattle.std.proofs.Common.{◌≡◌, ℕ, ◌<◌, false, get_or}
use Rattle.unfolder.specs.Cores.{is_too_small}
use Rattle.unfolder.specs.Tables.{no_rect}
use Rattle.unfolder.proofs.refusals.first_too_small.Given as goal

abbrev pub invariant-loop-face : goal.invariant-loop-face
invariant-loop-face l = (k : ℕ) → k < l.face → is_too_small (get_or l.cores k no_rect) ≡ false
