use Rattle.cert_check.specs.Rows.{AreMet}
use Rattle.cert_check.proofs.rows.open_action.Given as goal

abbrev pub invariant-loop-number : goal.invariant-loop-number
invariant-loop-number l = AreMet l.job l.rows.rows l.row.head l.row.noted l.number
