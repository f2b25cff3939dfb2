use Rattle.std.proofs.Common.{sym, ◌∙◌}
use Rattle.sector_geom.proofs.PieceLaws.{piece_is}
use Rattle.job_setup.specs.Reasons.{moving_rect}
use Rattle.sweep_check.proofs.pieces.piece_with.Goals as goal

pub cover-requires-clause-in_range : goal.cover-requires-clause-in_range
cover-requires-clause-in_range c = (piece_is c.args.quarter (moving_rect c.args.job.now c.args.body.now) _ c.requires.in_range (sym c.requires.part ∙ c.in-Some.is)).in_range

pub cover-requires-clause-in_quarter : goal.cover-requires-clause-in_quarter
cover-requires-clause-in_quarter c = (piece_is c.args.quarter (moving_rect c.args.job.now c.args.body.now) _ c.requires.in_range (sym c.requires.part ∙ c.in-Some.is)).in_quarter

pub cover-requires-clause-interior : goal.cover-requires-clause-interior
cover-requires-clause-interior c = (piece_is c.args.quarter (moving_rect c.args.job.now c.args.body.now) _ c.requires.in_range (sym c.requires.part ∙ c.in-Some.is)).interior
