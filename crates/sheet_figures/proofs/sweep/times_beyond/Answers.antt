use Rattle.sheet_figures.proofs.Sweeps.{times_small}
use Rattle.sheet_figures.proofs.sweep.times_beyond.Goals as goal

pub returns-clause-near : goal.returns-clause-near
returns-clause-near c = times_small c.args.far c.args.reach c.requires.far c.requires.reach
