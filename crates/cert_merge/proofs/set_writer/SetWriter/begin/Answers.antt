use Rattle.std.proofs.Common.{◌∙◌}
use Rattle.cert_merge.proofs.SetNotes.{writer_begun}
use Rattle.cert_merge.proofs.set_writer.SetWriter.begin.Goals as goal

pub set_reasons-requires-clause-reasons : goal.set_reasons-requires-clause-reasons
set_reasons-requires-clause-reasons c = c.requires.writable.reasons c.args.mask c.set.result.now c.set.ensures

pub returns-clause-writer : goal.returns-clause-writer
returns-clause-writer c =
    writer_begun c.args.settled.now c.args.mask c.set.result.now c.args.stages (record { writer = c.set_reasons.new.writer; notes = c.in_ok-notes.notes })
    c.set_reasons.ensures.stages (c.in_ok-notes.ensures.mask ∙ c.in_ok-begin.ensures.mask) c.set.ensures c.in_ok-notes.ensures.notes

pub returns-clause-mask : goal.returns-clause-mask
returns-clause-mask c = c.in_ok-notes.ensures.mask ∙ c.in_ok-begin.ensures.mask
