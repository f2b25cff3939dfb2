use Rattle.std.proofs.Common.{◌<◌, length, subst, sym, arith}
use Rattle.bb_search.specs.WrittenRows.{AreWritable}
use Rattle.bb_search.proofs.GoingOn.{can_go_on, opened_whole}
use Rattle.bb_search.proofs.pieces.CertPieces.open.Goals as goal

pub invariant_of-result : goal.invariant_of-result
invariant_of-result c =
    let pool = c.args.pool in
    let writable = subst (λ n. AreWritable n pool) (sym c.stages-stages.ensures.value) c.requires.writable in
    let few : length pool.rows < 4294967296 = omega (arith, c.len-rows.ensures.length) in
    can_go_on pool c.len-rows.ensures.pool c.stages-stages.result writable few c.next_in_order-next.result c.next_in_order-next.ensures.some c.next_in_order-next.ensures.none c.in_ok-writer.writer c.in_ok-writer.ensures.stages c.in_ok-writer.ensures.known

pub returns-clause-text : goal.returns-clause-text
returns-clause-text c =
    let pool = c.args.pool in
    let writable = subst (λ n. AreWritable n pool) (sym c.stages-stages.ensures.value) c.requires.writable in
    let few : length pool.rows < 4294967296 = omega (arith, c.len-rows.ensures.length) in
    opened_whole pool c.len-rows.ensures.pool c.stages-stages.result writable few c.next_in_order-next.result c.next_in_order-next.ensures.some c.next_in_order-next.ensures.none c.args.job.now c.args.claim c.args.steps.now.items c.in_ok-beginning.beginning.items
    c.stages-stages.ensures.value c.in_ok-beginning.ensures
