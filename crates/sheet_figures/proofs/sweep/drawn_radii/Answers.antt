use Rattle.sheet_figures.proofs.Sweeps.{drawn_cover}
use Rattle.sheet_figures.proofs.sweep.drawn_radii.Goals as goal

pub radii_of-requires : goal.radii_of-requires
radii_of-requires c = drawn_cover c.args.swept.now.sweep c.args.swept.now.cover c.requires.cover

pub returns-clause-cover : goal.returns-clause-cover
returns-clause-cover c = drawn_cover c.args.swept.now.sweep c.args.swept.now.cover c.requires.cover
