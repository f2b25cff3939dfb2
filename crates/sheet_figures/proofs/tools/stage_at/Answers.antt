use Rattle.std.proofs.Common.{ap, subst, sym}
use Rattle.job_setup.specs.Setup.{SetupData, stage_data}
use Rattle.job_setup.specs.StageOf.{no_stage}
use Rattle.job_setup.specs.Near.{HasNearTools}
use Rattle.job_setup.specs.ValidJob.{IsStage}
use Rattle.job_setup.proofs.Near.{setup_near}
use Rattle.job_setup.proofs.StageAt.{stage_within, stage_is, stage_is_near}
use Rattle.sheet_figures.proofs.tools.stage_at.Goals as goal

pub bounds-as_slice-from : goal.bounds-as_slice-from
bounds-as_slice-from c = stage_within c.args.job.now _ _ _ _ (ap (λ (s : SetupData). s.stages) c.setup.ensures.value) c.as_slice.ensures.value c.from.ensures c.requires

pub returns-clause-value : goal.returns-clause-value
returns-clause-value c = stage_is c.args.job.now _ _ _ _ _ (ap (λ (s : SetupData). s.stages) c.setup.ensures.value) c.as_slice.ensures.value c.from.ensures c.requires c.index-as_slice-from.is

pub returns-clause-valid : goal.returns-clause-valid
returns-clause-valid c = subst IsStage (sym (returns-clause-value c)) (c.setup.ensures.valid.setup.stages.each c.args.stage no_stage c.requires)

pub returns-clause-near : goal.returns-clause-near
returns-clause-near c = stage_is_near c.args.job.now c.args.stage (stage_data c.index-as_slice-from.result) c.setup.ensures.valid c.requires (returns-clause-value c)

pub returns-clause-tools : goal.returns-clause-tools
returns-clause-tools c = subst HasNearTools (sym (returns-clause-value c)) ((setup_near c.args.job.now c.setup.ensures.valid).tools c.args.stage no_stage c.requires)
