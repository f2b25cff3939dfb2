use Rattle.row_text.proofs.WriterKept.{begun, empty_block}
use Rattle.row_text.proofs.row_writer.RowWriter.open.Goals as goal

pub invariant_of-result : goal.invariant_of-result
invariant_of-result c =
    begun _ _ _ _ _ c.requires c.in_ok-start.ensures c.in_ok-keys.ensures c.in_ok-no_lines.ensures c.empty.ensures.value
    (empty_block c.in_ok-no_lines.field-0.items c.empty-2.result c.in_ok-text.text.items c.empty-2.ensures.value c.in_ok-text.ensures.items)
