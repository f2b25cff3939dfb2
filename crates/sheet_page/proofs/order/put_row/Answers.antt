use Rattle.std.proofs.Common.{arith}
use Rattle.sheet_page.proofs.order.put_row.Goals as goal

pub put_cells-requires-clause-cost : goal.put_cells-requires-clause-cost
put_cells-requires-clause-cost c = omega (arith, c.requires.stroke.small)
