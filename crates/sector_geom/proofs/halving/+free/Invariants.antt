use Rattle.sector_geom.proofs.halving.+free.Given as goal

abbrev pub decreases-free : goal.decreases-free
decreases-free l = l.depth
