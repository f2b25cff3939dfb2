use Rattle.std.proofs.Common.{sym, ◌∙◌}
use Rattle.std.proofs.lemmas.Bool.{false≢true}
use Rattle.sector_geom.proofs.AllMeet.{all_meet_in, points_met, crossings_met}
use Rattle.sector_geom.proofs.special_points.all_meet.Goals as goal

pub returns-then-points_meet : goal.returns-then-points_meet
returns-then-points_meet c =
    let s = c.args.s.now in let r = c.args.r.now in
    record {
      exact = (
        λ t. all_meet_in s r c.args.bound (c.points_meet.ensures.exact.0 c.if-points_meet.true) (c.crossings_meet.ensures.exact.0 t),
        λ h. c.crossings_meet.ensures.exact.1 (crossings_met s r c.args.bound c.requires.interior h),
      );
    }

pub returns-else-points_meet : goal.returns-else-points_meet
returns-else-points_meet c =
    let s = c.args.s.now in let r = c.args.r.now in
    record {
      exact = (
        λ t. absurd (false≢true (sym c.if-points_meet.false ∙ t)),
        λ h. c.points_meet.ensures.exact.1 (points_met s r c.args.bound c.requires.interior h),
      );
    }
