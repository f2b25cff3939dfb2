use Rattle.std.proofs.Common.{sym}
use Rattle.sector_geom.proofs.PieceLaws.{piece_is}
use Rattle.job_setup.specs.Reasons.{moving_rect}
use Rattle.sheet_views.proofs.swept.swept_in.Goals as goal

pub cover-requires-clause-in_range : goal.cover-requires-clause-in_range
cover-requires-clause-in_range c = (piece_is c.args.quarter (moving_rect c.args.job.now c.args.pose_box.now) c.in_ok-piece.piece c.in_ok-piece.ensures.in_range (sym c.in_ok-piece.ensures.value)).in_range

pub cover-requires-clause-in_quarter : goal.cover-requires-clause-in_quarter
cover-requires-clause-in_quarter c = (piece_is c.args.quarter (moving_rect c.args.job.now c.args.pose_box.now) c.in_ok-piece.piece c.in_ok-piece.ensures.in_range (sym c.in_ok-piece.ensures.value)).in_quarter

pub cover-requires-clause-interior : goal.cover-requires-clause-interior
cover-requires-clause-interior c = (piece_is c.args.quarter (moving_rect c.args.job.now c.args.pose_box.now) c.in_ok-piece.piece c.in_ok-piece.ensures.in_range (sym c.in_ok-piece.ensures.value)).interior
