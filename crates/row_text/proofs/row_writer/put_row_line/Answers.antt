use Rattle.std.proofs.lemmas.Result.{on_ok_weaker}
use Rattle.row_text.proofs.RowLines.{row_put}
use Rattle.row_text.proofs.row_writer.put_row_line.Goals as goal

pub returns : goal.returns
returns c =
    on_ok_weaker c.put-3.result
    (row_put c.args.row.now c.args.start.now c.args.key.now c.of.result c.args.out.now.items c.put.new.out.items c.put-2.new.out.items c.put-3.new.out.items
    c.requires.start c.requires.key c.of.ensures c.in_ok-put.ensures c.in_ok-put-2.ensures)
    c.put-3.ensures
