use Rattle.std.proofs.Common.{ap, subst, sym}
use Rattle.job_setup.specs.Setup.{SetupData}
use Rattle.job_setup.specs.StageOf.{no_stage}
use Rattle.job_setup.specs.ValidJob.{IsStage}
use Rattle.job_setup.proofs.StageAt.{stage_within, stage_is}
use Rattle.sheet_words.proofs.tools.stage_at.Goals as goal

pub bounds-as_slice-from : goal.bounds-as_slice-from
bounds-as_slice-from c = stage_within c.args.job.now _ _ _ _ (ap (λ (s : SetupData). s.stages) c.setup.ensures.value) c.as_slice.ensures.value c.from.ensures c.requires

pub returns-clause-value : goal.returns-clause-value
returns-clause-value c = stage_is c.args.job.now _ _ _ _ _ (ap (λ (s : SetupData). s.stages) c.setup.ensures.value) c.as_slice.ensures.value c.from.ensures c.requires c.index-as_slice-from.is

pub returns-clause-valid : goal.returns-clause-valid
returns-clause-valid c = subst IsStage (sym (returns-clause-value c)) (c.setup.ensures.valid.setup.stages.each c.args.stage no_stage c.requires)
