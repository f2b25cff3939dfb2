use Rattle.std.proofs.Common.{◌≡◌, ◌∙◌, ℕ, Bool, Some, ap, sym, filter, arith}
use Rattle.std.specs.Prelude.{Option, unwrap_or}
use Rattle.std.specs.List.{range_with_len}
use Rattle.brake_base.specs.Masks.{has}
use Rattle.job_setup.specs.StrokeGroup.{in_group}
use Rattle.job_setup.specs.StageOf.{stage_of}
use Rattle.job_setup.specs.Reasons.{meets}
use Rattle.job_setup.specs.Setup.{stage_count}
use Rattle.handling_cost.specs.Bound.{nearest}
use Rattle.handling_cost.specs.Nearest.{lesser}
use Rattle.handling_cost.proofs.LeadTests.{nearest_next, nearest_skip, nearest_or_none}
use Rattle.handling_cost.proofs.lower_bound.nearest_among.Goals.{then-meets_at, else-meets_at}
use Rattle.handling_cost.proofs.lower_bound.nearest_among.Goals as goal

pub loop-stage-preserved : goal.loop-stage-preserved
loop-stage-preserved c =
    let meets_here : ℕ → Bool = λ stage. meets c.args.job.now (in_group c.args.job.now (has c.args.mask) c.args.bend) (stage_of c.args.job.now stage) in
    let from = c.args.from in
    let stage = c.loop-stage.stage in
    elim c.if-meets_at.branch [
      | then-meets_at w ↦
          w.nearest-is ∙ ap Some (w.lesser.ensures ∙ (λ i. lesser (c.loop-stage.invariant i) (w.abs_diff.ensures i)))
          ∙ sym (nearest_next meets_here from stage (sym c.meets_at.ensures ∙ w.if-meets_at.true))
      | else-meets_at w ↦ w.nearest-is ∙ c.loop-stage.invariant ∙ sym (nearest_skip meets_here from stage (sym c.meets_at.ensures ∙ w.if-meets_at.false))
    ]

pub returns : goal.returns
returns c =
    let meets_here : ℕ → Bool = λ stage. meets c.args.job.now (in_group c.args.job.now (has c.args.mask) c.args.bend) (stage_of c.args.job.now stage) in
    let from = c.args.from in
    let all : c.loop-stage.stage ≡ stage_count c.args.job.now = omega (arith, c.loop-stage-test.false, c.loop-stage.auto.stage-end, c.stages-stage-end.ensures.value) in
    c.unwrap_or.ensures ∙ ap (λ (o : Option ℕ). unwrap_or o 0) c.loop-stage.invariant
    ∙ nearest_or_none from (filter meets_here (range_with_len 0 c.loop-stage.stage)) ∙ ap (λ (n : ℕ). nearest from (filter meets_here (range_with_len 0 n))) all
