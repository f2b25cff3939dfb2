use Rattle.cert_check.proofs.WindowLemmas.{begun_piece}
use Rattle.cert_check.proofs.read_window.begin.Goals as goal

pub returns-clause-read : goal.returns-clause-read
returns-clause-read c = λ behind.
    let next = c.read_job.new.reader in
    begun_piece c.args.kind c.args.piece.now c.new-reader.result.rest.now next.rest.now c.rest.result.now behind c.in_ok-read.read next.place c.place.result c.new-reader.ensures.rest c.place.ensures c.rest.ensures c.in_ok-read.ensures.rest (c.in_ok-read.ensures.read behind)
