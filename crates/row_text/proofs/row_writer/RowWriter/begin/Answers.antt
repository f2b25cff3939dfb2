use Rattle.row_text.proofs.WriterKept.{begun}
use Rattle.row_text.proofs.row_writer.RowWriter.begin.Goals as goal

pub invariant_of-self-2 : goal.invariant_of-self-2
invariant_of-self-2 c =
    let w = c.self.invariant in
    begun _ _ _ _ _ w.few c.in_ok-start.ensures w.words w.count c.empty-self-inside.ensures.value w.is_block
