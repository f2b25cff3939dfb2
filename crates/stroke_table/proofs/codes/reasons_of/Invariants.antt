use Rattle.std.proofs.Common.{◌≡◌, ℕ, ◌<◌, length, slice_index}
use Rattle.stroke_table.specs.Strokes.{reason_at}
use Rattle.stroke_table.specs.Codes.{IsToldBy}
use Rattle.stroke_table.proofs.codes.reasons_of.Given as goal

abbrev pub invariant-loop-stage : goal.invariant-loop-stage
invariant-loop-stage l = record {
  count : length l.reasons ≡ 6;
  told : (stage : ℕ) → stage < l.stage → IsToldBy (slice_index l.codes.0 stage) (reason_at l.reasons stage);
}
