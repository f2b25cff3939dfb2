use Rattle.std.proofs.Common.{length}
use Rattle.sheet_page.proofs.station_part.+put_last_pieces.Given as goal

-- how many pieces are left
abbrev pub decreases-put_last_pieces : goal.decreases-put_last_pieces
decreases-put_last_pieces l = length l.pieces.now
