use Rattle.std.proofs.Common.{length}
use Rattle.sheet_page.proofs.lists.+put_last_names.Given as goal

-- how many faces are left
abbrev pub decreases-put_last_names : goal.decreases-put_last_names
decreases-put_last_names l = length l.faces.now
