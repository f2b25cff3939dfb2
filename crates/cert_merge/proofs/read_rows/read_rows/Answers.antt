use Rattle.cert_merge.proofs.RowReading.{rows_read}
use Rattle.cert_merge.proofs.read_rows.read_rows.Goals as goal

pub returns : goal.returns
returns c = rows_read c.args.text.now c.read_text.result c.read_text.ensures
