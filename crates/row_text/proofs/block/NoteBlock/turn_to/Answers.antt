use Rattle.std.proofs.Common.{sym, ◌∙◌}
use Rattle.row_text.proofs.BlockTexts.{block_done}
use Rattle.row_text.proofs.block.NoteBlock.turn_to.Goals as goal

pub returns-in-Err-clause-block : goal.returns-in-Err-clause-block
returns-in-Err-clause-block c =
    c.clear-in-Err.ensures.text ∙ sym (block_done c.args.lines.now c.clear-in-Err.new.self.notes c.clear-in-Err.ensures.notes)
