use Rattle.std.proofs.Common.{◌∙◌, ap, refl, map}
use Rattle.job_setup.specs.Setup.{SetupData, stage_data}
use Rattle.sweep_check.proofs.Bounds.{noses_listed}
use Rattle.sweep_check.proofs.surroundings.Surroundings.at.Goals as goal

pub returns-clause-value : goal.returns-clause-value
returns-clause-value c =
    let same = ap (map stage_data) c.as_slice.ensures.value ∙ ap (λ (s : SetupData). s.stages) c.setup.ensures.value in
    record {
      within = c.requires;
      upper = c.upper_group.ensures.value;
      noses = noses_listed c.as_slice.result.now c.args.job.now.setup.stages _ _ refl c.noses.ensures same;
      lower = c.lower_group.ensures.value;
    }
