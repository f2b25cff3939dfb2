use Rattle.allowance.proofs.MatchingRows.{each_row}
use Rattle.allowance.proofs.table.find.Goals as goal

pub only_match-requires : goal.only_match-requires
only_match-requires c = rw c.deref.ensures.value (each_row c.args.table.now.rows.items c.requires.each)
