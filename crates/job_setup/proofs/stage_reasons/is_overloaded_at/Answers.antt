use Rattle.std.proofs.Common.{◌∙◌, ap, sym, subst, pos}
use Rattle.brake_base.specs.Masks.{has}
use Rattle.job_setup.specs.ValidJob.{IsStageLoad}
use Rattle.job_setup.specs.Setup.{StageData}
use Rattle.job_setup.specs.StageOf.{no_stage}
use Rattle.job_setup.specs.Reasons.{is_overloaded}
use Rattle.job_setup.proofs.stage_reasons.is_overloaded_at.Goals as goal

pub is_overloaded-requires : goal.is_overloaded-requires
is_overloaded-requires c = subst (λ (s : StageData). IsStageLoad s.load) (sym c.stage_at.ensures.value) (c.recall_valid.ensures.setup.stages.each c.args.stage no_stage c.requires).load

pub returns : goal.returns
returns c = c.is_overloaded.ensures ∙ ap (λ (s : StageData). is_overloaded c.args.job.now (has c.args.group) s) c.stage_at.ensures.value
