use Rattle.std.proofs.Common.{arith}
use Rattle.plan_cert.proofs.RowOrder.{few_rows}
use Rattle.cert_check.proofs.row_table.RowTable.len.Goals as goal

pub overflow_cast-result : goal.overflow_cast-result
overflow_cast-result c =
    let table = c.self.invariant in
    let few = few_rows c.self.inside.job table.valid c.self.inside.rows.items table.ordered in
    omega (arith, few, c.len.ensures)
