use Rattle.std.proofs.Common.{◌-◌, length}
use Rattle.sheet_page.proofs.dead_end.+put_last_pictures.Given as goal

-- how many notes are left
abbrev pub decreases-put_last_pictures : goal.decreases-put_last_pictures
decreases-put_last_pictures l = length l.refusals.now.notes.now - l.at
