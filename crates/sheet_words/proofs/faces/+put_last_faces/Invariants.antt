use Rattle.std.proofs.Common.{length}
use Rattle.sheet_words.proofs.faces.+put_last_faces.Given as goal

-- how many faces are left
abbrev pub decreases-put_last_faces : goal.decreases-put_last_faces
decreases-put_last_faces l = length l.faces.now
