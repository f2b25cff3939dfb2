use Rattle.std.proofs.Common.{◌≡◌, ◌∙◌, ◌≤ℤ◌, pos, sym, ap, subst, ℤ, to_z, of_z, w64, arith}
use Rattle.std.proofs.lemmas.Int.{ints}
use Rattle.sector_geom.specs.Plane.{IsInRange}
use Rattle.sector_geom.specs.Pieces.{widened_by}
use Rattle.job_setup.specs.Reasons.{seen_from, widening}
use Rattle.sheet_views.proofs.MovingRects.{seen_box_in_range, moving_in_range}
use Rattle.sheet_views.proofs.swept.moving_rect.Goals as goal

pub widened-requires-clause-in_range : goal.widened-requires-clause-in_range
widened-requires-clause-in_range c =
    subst IsInRange (sym (c.seen_from.ensures ∙ ap (seen_from c.args.pose_box.now.half) c.across.ensures)) (seen_box_in_range c.args.pose_box.now c.requires.near)

pub returns-clause-value : goal.returns-clause-value
returns-clause-value c =
    let by : to_z w64 (of_z w64 c.widening.result) ≡ c.widening.result = omega (arith, ints, c.widening.ensures.low, c.widening.ensures.high) in
    let seen = c.seen_from.ensures ∙ ap (seen_from c.args.pose_box.now.half) c.across.ensures in
    c.widened.ensures.value ∙ (λ i. widened_by ((by ∙ c.widening.ensures.value) i) (seen i))

pub returns-clause-in_range : goal.returns-clause-in_range
returns-clause-in_range c =
    let low : pos 0 ≤ℤ widening c.args.job.now = subst (λ (n : ℤ). pos 0 ≤ℤ n) c.widening.ensures.value c.widening.ensures.low in
    let high : widening c.args.job.now ≤ℤ pos 100000 = subst (λ (n : ℤ). n ≤ℤ pos 100000) c.widening.ensures.value c.widening.ensures.high in
    subst IsInRange (sym (returns-clause-value c)) (moving_in_range c.args.job.now c.args.pose_box.now low high c.requires.near)
