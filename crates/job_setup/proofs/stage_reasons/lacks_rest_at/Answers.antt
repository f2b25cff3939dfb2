use Rattle.std.proofs.Common.{◌∙◌, ap}
use Rattle.brake_base.specs.Masks.{has}
use Rattle.job_setup.specs.Setup.{StageData}
use Rattle.job_setup.specs.Reasons.{lacks_rest}
use Rattle.job_setup.proofs.stage_reasons.lacks_rest_at.Goals as goal

pub returns : goal.returns
returns c = c.lacks_rest.ensures ∙ ap (λ (s : StageData). lacks_rest c.args.job.now (has c.args.group) c.args.side s) c.stage_at.ensures.value
