-- The test of a valid job decides whether values are one.
use Rattle.std.proofs.Common.{Decides}
use Rattle.job_setup.specs.Setup.{JobData}
use Rattle.job_setup.specs.ValidJob.{IsJob}
use Rattle.cert_lines.specs.JobTest.{job_test, is_job}

pub job_decided : (j : JobData) → Decides (is_job j) (IsJob j)
unfolding is_job
job_decided j = (job_test j).1
