use Rattle.cert_check.proofs.RowLemmas.{row_key}
use Rattle.cert_check.proofs.rows.first_open.Goals as goal

pub turn_to-requires-clause-mask : goal.turn_to-requires-clause-mask
turn_to-requires-clause-mask c = (row_key c.args.job.now c.args.row.now.head c.requires.row).mask
