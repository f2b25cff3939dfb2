-- The stages of a job by their numbers.
use Rattle.std.specs.Prelude.{ℕ, pos, [], slice_index_or}
use Rattle.job_setup.specs.Setup.{StageData, JobData}

-- what stands past the last stage
abbrev pub no_stage : StageData
no_stage = record {
  punch =
      record { name = []; height = pos 0; nose = pos 0; body = []; sections = []; limit = pos 0 };
  die =
      record {
        name = [];
        height = pos 0;
        v = pos 0;
        least_flange = pos 0;
        body = [];
        sections = [];
        limit = pos 0;
      };
  x0 = pos 0;
  x1 = pos 0;
  pieces = [];
  load = pos 0;
  limit = pos 0;
}

-- the stage of a number
abbrev pub stage_of : JobData → ℕ → StageData
stage_of job stage = slice_index_or job.setup.stages stage no_stage
