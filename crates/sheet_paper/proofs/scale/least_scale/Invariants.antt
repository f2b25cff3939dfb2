use Rattle.std.proofs.Common.{ℕ, ◌<◌, pos, get_or}
use Rattle.sheet_paper.specs.declared.scale.TheConstants.{SCALES}
use Rattle.sheet_paper.specs.Scales.{HasRoom}
use Rattle.sheet_paper.proofs.scale.least_scale.Given as goal

-- none of the scales so far has room
abbrev pub invariant-loop-scale : goal.invariant-loop-scale
invariant-loop-scale l = (k : ℕ) → k < l.scale-index → HasRoom l.width l.height l.across l.upright (get_or SCALES k (pos 0)) → ⊥
