use Rattle.std.proofs.Common.{◌∙◌}
use Rattle.job_setup.specs.Reasons.{meets}
use Rattle.job_setup.proofs.strokes.meets_at.Goals as goal

pub returns : goal.returns
returns c = c.meets.ensures ∙ (λ i. meets c.args.job.now (λ b. c.group.ensures.bends b i) (c.stage_at.ensures.value i))
