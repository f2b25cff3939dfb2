use Rattle.std.proofs.Common.{arith, subst}
use Rattle.cert_check.specs.Rows.{NumberAnswer}
use Rattle.cert_check.proofs.RowLemmas.{met_on}
use Rattle.cert_check.proofs.rows.open_action.Goals as goal

pub returns-then-is_open : goal.returns-then-is_open
returns-then-is_open c =
    let row = c.args.row.now in
    (subst (NumberAnswer c.args.job.now c.args.rows.now.rows row.head row.noted c.loop-number.number) c.if-is_open.true c.is_open.ensures, c.loop-number.invariant)

pub loop-number-preserved : goal.loop-number-preserved
loop-number-preserved c =
    let row = c.args.row.now in
    met_on c.args.job.now c.args.rows.now.rows row.head row.noted c.loop-number.number c.loop-number.invariant
    (subst (NumberAnswer c.args.job.now c.args.rows.now.rows row.head row.noted c.loop-number.number) c.if-is_open.false c.is_open.ensures)

pub returns : goal.returns
returns c = λ number less.
    c.loop-number.invariant number (let end = c.loop-number-test.false in let count = c.action_count-number-end.ensures.value in omega (arith, less, end, count))
