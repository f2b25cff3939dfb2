use Rattle.std.proofs.Common.{◌∙◌, ap}
use Rattle.brake_base.specs.Masks.{has}
use Rattle.job_setup.specs.Setup.{StageData}
use Rattle.job_setup.specs.Reasons.{is_uncovered}
use Rattle.job_setup.proofs.stage_reasons.is_uncovered_at.Goals as goal

pub returns : goal.returns
returns c = c.is_uncovered.ensures ∙ ap (λ (s : StageData). is_uncovered c.args.job.now (has c.args.group) s) c.stage_at.ensures.value
