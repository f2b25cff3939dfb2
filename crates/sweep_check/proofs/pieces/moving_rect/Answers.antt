use Rattle.std.proofs.Common.{◌≡◌, ◌∙◌, ◌≤ℤ◌, pos, sym, ap, subst, ℤ, to_z, of_z, w64, arith}
use Rattle.std.proofs.lemmas.Int.{ints}
use Rattle.sector_geom.specs.Plane.{IsInRange}
use Rattle.sector_geom.specs.Pieces.{widened_by}
use Rattle.job_setup.specs.Reasons.{seen_from, widening}
use Rattle.sweep_check.proofs.Bounds.{seen_box_in_range, moving_in_range}
use Rattle.sweep_check.proofs.pieces.moving_rect.Goals as goal

pub widened-requires-clause-in_range : goal.widened-requires-clause-in_range
widened-requires-clause-in_range c =
    subst IsInRange (sym (c.seen_from.ensures ∙ ap (seen_from c.args.body.now.half) c.across.ensures)) (seen_box_in_range c.args.body.now c.requires.solid)

pub returns-clause-value : goal.returns-clause-value
returns-clause-value c =
    let by : to_z w64 (of_z w64 c.widening.result) ≡ c.widening.result = omega (arith, ints, c.widening.ensures.low, c.widening.ensures.high) in
    let seen = c.seen_from.ensures ∙ ap (seen_from c.args.body.now.half) c.across.ensures in
    c.widened.ensures.value ∙ (λ i. widened_by ((by ∙ c.widening.ensures.value) i) (seen i))

pub returns-clause-in_range : goal.returns-clause-in_range
returns-clause-in_range c =
    let small : widening c.args.job.now ≤ℤ pos 100000 = subst (λ (n : ℤ). n ≤ℤ pos 100000) c.widening.ensures.value c.widening.ensures.high in
    subst IsInRange (sym (returns-clause-value c)) (moving_in_range c.args.job.now c.args.body.now small c.requires.solid)
