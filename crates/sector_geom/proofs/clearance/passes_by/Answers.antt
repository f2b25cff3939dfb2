use Rattle.sector_geom.proofs.Cases.{clear_past}
use Rattle.sector_geom.proofs.clearance.passes_by.Goals as goal

pub returns-then-is_out_of_reach-clause-sound : goal.returns-then-is_out_of_reach-clause-sound
returns-then-is_out_of_reach-clause-sound c = λ t. clear_past c.args.s.now c.args.r.now (c.is_out_of_reach.ensures.sound t)
