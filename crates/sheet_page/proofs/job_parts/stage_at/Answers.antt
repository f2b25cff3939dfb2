use Rattle.std.proofs.Common.{ap}
use Rattle.job_setup.specs.Setup.{SetupData, stage_data}
use Rattle.job_setup.proofs.StageAt.{stage_within, stage_is, stage_is_near}
use Rattle.sheet_page.proofs.job_parts.stage_at.Goals as goal

pub bounds-as_slice-from : goal.bounds-as_slice-from
bounds-as_slice-from c = stage_within c.args.job.now _ _ _ _ (ap (λ (s : SetupData). s.stages) c.setup.ensures.value) c.as_slice.ensures.value c.from.ensures c.requires

pub returns-clause-value : goal.returns-clause-value
returns-clause-value c = stage_is c.args.job.now _ _ _ _ _ (ap (λ (s : SetupData). s.stages) c.setup.ensures.value) c.as_slice.ensures.value c.from.ensures c.requires c.index-as_slice-from.is

pub returns-clause-near : goal.returns-clause-near
returns-clause-near c = stage_is_near c.args.job.now c.args.number (stage_data c.index-as_slice-from.result) c.setup.ensures.valid c.requires (returns-clause-value c)
