-- Which jobs and certificates have a text in version 1.
use Rattle.std.specs.Prelude.{◌≡◌, List, length}
use Rattle.brake_base.specs.declared.stroke.Step.{Step}
use Rattle.brake_base.specs.declared.stroke.Worth.{Worth}
use Rattle.brake_base.specs.declared.stroke.Worth.TheVariants.{Cost, Blocked}
use Rattle.job_setup.specs.Setup.{JobData, bend_count}
use Rattle.plan_cert.specs.Cert.{CertData}
use Rattle.cert_lines.specs.JobText.{IsJobOfVersion1}

-- with a cost as the claim there is a step for each bend
abbrev pub HasStepForEach : JobData → Worth → List Step → Type 0
HasStepForEach job (Cost cost) steps = length steps ≡ bend_count job
HasStepForEach job Blocked steps = Unit {0}

-- a certificate that has a text in version 1
pub record HasText1 (job : JobData) (cert : CertData) : Type 0 where
  pub told : IsJobOfVersion1 job
  pub steps : HasStepForEach job cert.claim cert.steps
