use Rattle.sheet_views.proofs.Reach.{overlaps_is}
use Rattle.sheet_views.proofs.hazards.overlaps.Goals as goal

pub returns : goal.returns
returns c = overlaps_is c.overlap.result c.args.a.now c.args.b.now c.overlap.ensures.ends
