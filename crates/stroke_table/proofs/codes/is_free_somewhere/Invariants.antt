use Rattle.std.proofs.Common.{◌≡◌, ℕ, ◌<◌, slice_index}
use Rattle.stroke_table.proofs.codes.is_free_somewhere.Given as goal

abbrev pub invariant-loop-stage : goal.invariant-loop-stage
invariant-loop-stage l = (stage : ℕ) → stage < l.stage → slice_index l.codes.0 stage ≡ 65535 → ⊥
