-- The certificate of what a run answered. It stands on plan_cert's GoodCert (IsThriftyCert).
use Rattle.std.specs.Prelude.{◌≡◌, ◌↔◌, Some, length}
use Rattle.brake_base.specs.declared.stroke.Key.{Key}
use Rattle.brake_base.specs.declared.stroke.Action.{Action}
use Rattle.brake_base.specs.declared.stroke.Worth.{Worth}
use Rattle.brake_base.specs.declared.reason.Reason.{Reason}
use Rattle.job_setup.specs.Setup.{JobData}
use Rattle.handling_cost.specs.StepCost.{IsActionAt}
use Rattle.handling_cost.specs.Plan.{start}
use Rattle.row_pool.specs.Rows.{Pool}
use Rattle.plan_cert.specs.Cert.{CertData}
use Rattle.plan_cert.specs.CertText.{cert_text2}
use Rattle.plan_cert.specs.GoodCert.{HasRow as HasCertRow, HasNote as HasCertNote, IsThriftyCert}
use Rattle.plan_cert.specs.GoodCert.{IsWithinBudget}
use Rattle.bb_search.specs.declared.written.WrittenCert.{WrittenCert}
use Rattle.bb_search.specs.Table.{HasRow, HasNote}
use Rattle.bb_search.specs.Outcomes.{outcome_of, HaveFirstGauges, IsAnswer}
use Rattle.bb_search.specs.Searches.{SearchData}

-- the run ended with a claim, and its rows and steps are as it promises
abbrev pub HasAnswer : SearchData → Type 0
HasAnswer search =
    (claim : Worth) × (search.outcome ≡ Some (outcome_of claim))
    × IsAnswer search.job search.pool search.budget search.steps (outcome_of claim)

-- the certificate's rows are those of the pool, and its notes are their reasons; it has no others
pub record HasRowsOf (job : JobData) (pool : Pool) (cert : CertData) : Type 0 where
  pub count : length cert.rows ≡ length pool.rows
  pub rows : (key : Key) (worth : Worth) → HasCertRow cert key worth ↔ HasRow pool.rows key worth
  pub notes : (key : Key) (action : Action) (reason : Reason) → IsActionAt job key action
      → HasCertNote job cert key action reason ↔ HasNote job pool.rows key action reason

-- the certificate claims what the run answered, by the kept steps, whose gauges are the first legal
-- ones, and by the rows of the
-- pool
pub record IsCertificateOf (search : SearchData) (cert : CertData) : Type 0 where
  pub claim : search.outcome ≡ Some (outcome_of cert.claim)
  pub steps : cert.steps ≡ search.steps
  pub gauges : HaveFirstGauges search.job start cert.steps
  pub rows : HasRowsOf search.job search.pool cert
  pub few : IsWithinBudget search.job search.budget cert
  pub proves : IsThriftyCert search.job cert

-- the claim, the steps and the text of what is written are those of a certificate of the job
pub record IsWrittenAs (job : JobData) (cert : CertData) (written : WrittenCert) : Type 0 where
  pub claim : written.claim ≡ cert.claim
  pub steps : written.steps.items ≡ cert.steps
  pub text : written.text ≡ cert_text2 job cert

-- it is written of a certificate of what the run answered
abbrev pub IsWritten : SearchData → WrittenCert → Type 0
IsWritten search written =
    (cert : CertData) × IsCertificateOf search cert × IsWrittenAs search.job cert written
