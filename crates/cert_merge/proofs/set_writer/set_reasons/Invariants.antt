use Rattle.std.proofs.Common.{◌≡◌}
use Rattle.cert_merge.proofs.SetNotes.{AreNotesUpto}
use Rattle.cert_merge.proofs.set_writer.set_reasons.Given as goal

-- the reasons against the first so many actions are told
abbrev pub invariant-loop-number : goal.invariant-loop-number
invariant-loop-number l = record {
  mask : l.writer.mask ≡ l.fn.writer.mask;
  told : AreNotesUpto l.reasons l.stages l.number l.writer l.notes;
}
