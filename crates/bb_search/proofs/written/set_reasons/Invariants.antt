use Rattle.std.proofs.Common.{◌≡◌, length}
use Rattle.stage_lanes.specs.ActionSets.{places_of}
use Rattle.row_text.specs.Notes.{IsAmong}
use Rattle.bb_search.specs.WrittenRows.{IsWriterOf}
use Rattle.bb_search.proofs.WriterLemmas.{AreWaiting}
use Rattle.bb_search.proofs.written.set_reasons.Given as goal

-- each of the actions waits or has its reason
abbrev pub invariant-loop-action : goal.invariant-loop-action
invariant-loop-action l = record {
  writer : IsWriterOf l.pool l.stages l.writer;
  mask : l.writer.mask ≡ l.fn.writer.mask;
  waiting : AreWaiting l.fn.actions l.rest l.writer.known;
  kept : IsAmong l.fn.writer.known l.writer.known;
  among : IsAmong l.rest l.fn.actions;
}

abbrev pub decreases-loop-action : goal.decreases-loop-action
decreases-loop-action l = length (places_of l.rest)
