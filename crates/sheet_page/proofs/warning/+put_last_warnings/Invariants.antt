use Rattle.std.proofs.Common.{length}
use Rattle.sheet_page.proofs.warning.+put_last_warnings.Given as goal

-- how many warnings are left
abbrev pub decreases-put_last_warnings : goal.decreases-put_last_warnings
decreases-put_last_warnings l = length l.warnings.now
