use Rattle.std.proofs.Common.{◌≡◌, ◌/◌, ◌<◌, ℕ, sym, ◌∙◌, subst, arith}
use Rattle.std.proofs.lemmas.Result.{on_ok_weaker}
use Rattle.bb_search.proofs.WriterLemmas.{commons, all_known, row_written, stage_of_head}
use Rattle.bb_search.proofs.written.put_row.Goals as goal

pub set_reasons-requires-clause-writer : goal.set_reasons-requires-clause-writer
set_reasons-requires-clause-writer c = c.turn_to.ensures.writer c.args.pool.now c.args.stages c.requires.writer

pub set_reasons-requires-clause-common : goal.set_reasons-requires-clause-common
set_reasons-requires-clause-common c =
    commons c.args.pool.now c.args.row c.row_head-head.result c.turn_to.new.writer.mask c.row_head-head.ensures c.in_ok-turn_to.ensures.mask c.notes-notes.ensures.common

pub put_row-requires-clause-stage : goal.put_row-requires-clause-stage
put_row-requires-clause-stage c =
    subst (λ (n : ℕ). c.row_head-head.result.key.stage < n) (sym c.set_reasons.ensures.writer.its_stages)
    (stage_of_head c.args.pool.now c.args.stages c.requires.writable c.args.row c.row_head-head.result c.row_head-head.ensures)

pub returns-clause-text : goal.returns-clause-text
returns-clause-text c =
    let pool = c.args.pool.now in
    let stages = c.args.stages in
    let head = c.row_head-head.result in
    let notes = c.notes-notes.result in
    let writer = c.set_reasons.new.writer in
    let told = c.in_ok-set_reasons.ensures in
    let actions = c.requires.writable.actions in
    let same : pool.actions / 24 ≡ stages = omega (arith, actions) in
    on_ok_weaker c.put_row.result
    (row_written pool stages c.args.row (pool.actions / 24) head notes writer c.row_head-head.ensures same c.notes-notes.ensures.places c.set_reasons.ensures.writer
    (all_known notes c.unknown.result c.turn_to.new.writer.known writer.known c.unknown.ensures.places told.known told.kept)
    (commons pool c.args.row head writer.mask c.row_head-head.ensures (told.mask ∙ c.in_ok-turn_to.ensures.mask) c.notes-notes.ensures.common)
    c.args.out.now.items c.put_row.new.out.items)
    c.put_row.ensures.text

pub returns-in_err-turn_to-clause-writer : goal.returns-in_err-turn_to-clause-writer
returns-in_err-turn_to-clause-writer c = c.turn_to.ensures.writer c.args.pool.now c.args.stages c.requires.writer
