use Rattle.std.proofs.Common.{arith}
use Rattle.sheet_page.proofs.kept.end_of_notes.Goals as goal

pub loop-end-init : goal.loop-end-init
loop-end-init c = record {
  later = omega arith;
  within = omega arith;
  row = λ k d from below. absurd (omega arith);
}
