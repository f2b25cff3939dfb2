use Rattle.std.proofs.Common.{sym}
use Rattle.cert_check.proofs.ReadLemmas.{underway_row}
use Rattle.cert_check.proofs.read_cert.keep_row.Goals as goal

pub returns-clause-notes : goal.returns-clause-notes
returns-clause-notes c = λ cert before left under.
    let read = c.args.read.now in
    underway_row read.job cert before left c.args.row read.notes c.add_row.new.self under (sym c.in_ok-add_row.ensures.mask) (c.in_ok-add_row.ensures.sets before.rows c.args.row before.notes) c.in_ok-add_row.ensures.unsound
