use Rattle.std.proofs.Common.{ℕ, List}
use Rattle.brake_io.specs.Pieces.{HasPassed, reads_left}
use Rattle.plan_lines.specs.Facts.{HasFew}
use Rattle.cert_check.specs.RowNotes.{IsTesting}
use Rattle.cert_check.proofs.WindowLemmas.{IsReadAt}
use Rattle.cert_check.proofs.read_window.read_text_from.Given as goal

abbrev pub invariant-loop-stand : goal.invariant-loop-stand
invariant-loop-stand g l = record {
  few : HasFew l.stand.place.facts;
  testing : IsTesting l.stand.read.job l.stand.read.notes;
  passed : List ℕ;
  has : HasPassed l.fn.window l.window passed;
  reads : IsReadAt l.fn.kind l.window passed l.stand.read l.stand.place;
}

abbrev pub decreases-loop-stand : goal.decreases-loop-stand
decreases-loop-stand g l = reads_left l.window
