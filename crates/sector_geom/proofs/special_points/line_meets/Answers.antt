use Rattle.std.proofs.Common.{to_z-of_z, refl, sym, ◌∙◌, ap}
use Rattle.std.specs.Prelude.{not}
use Rattle.std.proofs.lemmas.Bool.{false≢true}
use Rattle.sector_geom.proofs.Crossings.{none_met, crossing_met, crossing_between}
use Rattle.sector_geom.proofs.special_points.line_meets.Goals as goal

pub returns-in-None : goal.returns-in-None
returns-in-None c = record { exact = (λ _. none_met c.args.ray c.args.at c.args.range c.args.bound (simp (to_z-of_z c.ranges.at) at c.in-None.ensures.exact), λ _. refl) }

pub returns-then-not-is_between : goal.returns-then-not-is_between
returns-then-not-is_between c =
    let o = simp (to_z-of_z c.ranges.at) at c.in-Some.ensures.exact in
    let outside = c.if-not-is_between.true in
    record {
      exact = (
        λ _ p d pd y l h r n. absurd (false≢true (sym outside ∙ c.is_between.ensures.exact.1 (crossing_between c.args.ray c.args.at c.args.range c.in-Some.point p d o pd y l h r))),
        λ _. ap not outside,
      );
    }

pub returns-else-not-is_between : goal.returns-else-not-is_between
returns-else-not-is_between c =
    let o = simp (to_z-of_z c.ranges.at) at c.in-Some.ensures.exact in
    let i = c.is_between.ensures.exact.0 c.if-not-is_between.false in
    let m = crossing_met c.args.ray c.args.at c.args.range c.args.bound c.in-Some.point o i in
    record { exact = (λ t. m.0 (c.crossing_distance_meets.ensures.exact.0 t), λ all. c.crossing_distance_meets.ensures.exact.1 (m.1 all)) }
