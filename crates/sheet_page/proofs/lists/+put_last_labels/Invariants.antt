use Rattle.std.proofs.Common.{length}
use Rattle.sheet_page.proofs.lists.+put_last_labels.Given as goal

-- how many faces are left
abbrev pub decreases-put_last_labels : goal.decreases-put_last_labels
decreases-put_last_labels l = length l.faces.now
