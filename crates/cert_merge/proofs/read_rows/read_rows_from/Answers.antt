use Rattle.std.proofs.Common.{◌++◌}
use Rattle.cert_merge.proofs.RowReading.{rows_read}
use Rattle.cert_merge.proofs.read_rows.read_rows_from.Goals as goal

pub returns : goal.returns
returns g c =
    let from = c.read_text_from.ensures in
    (from.0, from.1, λ last may. rows_read (from.0 ++ c.read_text_from.new.window.unread ++ last) c.read_text_from.result (from.2 last may))
