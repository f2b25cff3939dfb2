use Rattle.std.proofs.Common.{List, ℕ, ◌++◌, length}
use Rattle.cert_lines.specs.declared.format.TextKind.{TextKind}
use Rattle.plan_lines.specs.Facts.{HasFew}
use Rattle.cert_lines.specs.LineReading.{IsBehind}
use Rattle.plan_lines.specs.Reading.{MayBeBehind}
use Rattle.cert_check.specs.RowNotes.{IsTesting}
use Rattle.cert_check.specs.KnownNotes.{KnowsSound}
use Rattle.cert_check.specs.ReadCert.{IsReadBefore}
use Rattle.cert_check.proofs.read_cert.read_piece.Given as goal

abbrev pub invariant-loop-answer : goal.invariant-loop-answer
invariant-loop-answer l = record {
  few : HasFew l.reader.place.facts;
  testing : IsTesting l.read.job l.read.notes;
  lines : KnowsSound l.read.job l.read.notes l.lines;
  rest : IsBehind l.initial.reader.rest.now l.reader.rest.now;
  reads :
      (kind : TextKind) (text behind : List ℕ) → MayBeBehind l.is_last behind → IsReadBefore kind text l.initial.read l.initial.reader.place (l.initial.reader.rest.now ++ behind) → IsReadBefore kind text l.read l.reader.place (l.reader.rest.now ++ behind);
}

abbrev pub decreases-loop-answer : goal.decreases-loop-answer
decreases-loop-answer l = length l.reader.rest.now
