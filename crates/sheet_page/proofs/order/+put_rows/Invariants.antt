use Rattle.std.proofs.Common.{length}
use Rattle.sheet_page.proofs.order.+put_rows.Given as goal

-- how many steps are left
abbrev pub decreases-put_rows : goal.decreases-put_rows
decreases-put_rows l = length l.steps.now
