use Rattle.cert_check.proofs.WindowLemmas.{piece_on}
use Rattle.cert_check.proofs.read_window.read_on.Goals as goal

pub returns-clause-answer : goal.returns-clause-answer
returns-clause-answer c = λ kind text behind may is.
    let own = c.at-reader.result in
    let read = c.read_piece-answer in
    let next = read.new.reader in
    let stand = c.args.stand.now in
    piece_on read.result kind text c.args.piece.now own.rest.now next.rest.now c.rest.result.now behind stand.read read.new.read stand.place own.place next.place c.place-stand.result c.at-reader.ensures.rest c.at-reader.ensures.place c.rest.ensures
    c.place-stand.ensures read.ensures.rest (read.ensures.answer kind text behind may) is
