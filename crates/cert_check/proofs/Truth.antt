-- What a good certificate's claim says of its job, and that a certificate with a fault isn't good.
use Rattle.std.proofs.Common.{◌≡◌, inl, inr, ℕ, List, refl, sym, subst}
use Rattle.brake_base.specs.declared.stroke.Step.{Step}
use Rattle.brake_base.specs.declared.stroke.Worth.{Worth}
use Rattle.brake_base.specs.declared.stroke.Worth.TheVariants.{Cost, Blocked}
use Rattle.brake_base.specs.Worths.{IsAtMost}
use Rattle.job_setup.specs.Setup.{JobData}
use Rattle.job_setup.specs.ValidJob.{IsJob}
use Rattle.handling_cost.specs.Plan.{total, start}
use Rattle.handling_cost.specs.Good.{AreClaimed}
use Rattle.handling_cost.proofs.Least.{good_is_least}
use Rattle.plan_cert.specs.Cert.{CertData}
use Rattle.plan_cert.specs.WellFormed.{IsWellFormed, HasSteps}
use Rattle.plan_cert.specs.GoodCert.{HasRow, HasNote, IsGoodCert}
use Rattle.cert_check.specs.declared.fault.CheckFault.{CheckFault}
use Rattle.cert_check.specs.declared.fault.CheckFault.TheVariants.{Cert, BadStep, BadCost, BadReason, NotClosed, TooLow, NoMemory, Unfinished}
use Rattle.cert_check.specs.declared.fault.StepFault.{StepFault}
use Rattle.cert_check.specs.StepFaults.{IsFirstBadStep, AreUnfinished, IsBadCost}
use Rattle.plan_cert.specs.RowFaults.{HoldsAt, IsFirstFault, IsBadReason, IsNotClosed}
use Rattle.cert_check.specs.Checking.{IsProved}
use Rattle.cert_check.specs.Checking.{verdict_of, HasGoodRows, IsFault, IsTrueOf}
use Rattle.plan_cert.proofs.Conditions.{condition_met, accounted, one_note, no_full}
use Rattle.cert_check.proofs.StepLemmas.{rest_has_no_fault, rest_is_full}

module _ (job : JobData) (is_job : IsJob job) (cert : CertData) (form : IsWellFormed job cert) where
  -- good implies least: the claim is the least cost of a plan, or there is no plan
  pub claim_is_true : IsGoodCert job cert → IsTrueOf job (verdict_of cert.claim)
  claim_is_true good = by_claim cert.claim refl
    where
      by_claim : (claim : Worth) → claim ≡ cert.claim → IsTrueOf job (verdict_of claim)
      by_claim (Cost cost) is =
          let claimed : AreClaimed job (Cost cost) cert.steps = subst (λ (w : Worth). AreClaimed job w cert.steps) (sym is) good.good.claimed in (
            cert.steps,
            record {
              plan = claimed.0;
              sum = claimed.1;
              least = λ steps plan.
                  subst (λ (w : Worth). IsAtMost w (Cost (total job start steps))) (sym is)
                  (good_is_least job is_job (HasRow cert) (HasNote job cert) (no_full job is_job cert.rows cert.notes form.rows) cert.claim cert.steps good.good steps plan);
            },
          )
      by_claim Blocked is = λ steps plan.
          subst (λ (w : Worth). IsAtMost w (Cost (total job start steps))) (sym is)
          (good_is_least job is_job (HasRow cert) (HasNote job cert) (no_full job is_job cert.rows cert.notes form.rows) cert.claim cert.steps good.good steps plan)

  -- with the steps as claimed, the rows accounted for and the claim proved, it is good
  pub is_good : HasGoodRows job cert → IsProved job cert → IsGoodCert job cert
  is_good rows proved = record {
    form = form;
    good = record { claimed = rows.claimed; rows = condition_met job is_job cert.rows cert.notes form.rows rows.rows; proved = proved };
  }

  no_bad_step : (claim : Worth) (steps : List Step) → HasSteps job claim steps → AreClaimed job claim steps → (index : ℕ) (fault : StepFault) → IsFirstBadStep job start steps index fault → ⊥
  no_bad_step (Cost cost) steps few claimed index fault bad = rest_has_no_fault job start steps index fault bad claimed.0
  no_bad_step Blocked steps none claimed index fault bad = subst (λ (s : List Step). IsFirstBadStep job start s index fault) none bad

  no_unfinished : (claim : Worth) (steps : List Step) → AreClaimed job claim steps → AreUnfinished job claim steps → ⊥
  no_unfinished (Cost cost) steps claimed (last, legal, goes) = goes (rest_is_full job start last steps legal claimed.0)
  no_unfinished Blocked steps claimed goes = goes

  no_bad_cost : (claim : Worth) (steps : List Step) → AreClaimed job claim steps → IsBadCost job claim steps → ⊥
  no_bad_cost (Cost cost) steps claimed bad = bad.1 claimed.1
  no_bad_cost Blocked steps claimed bad = bad

  no_bad_reason : IsGoodCert job cert → (row action : ℕ) → IsFirstFault job cert.rows cert.notes row action (IsBadReason job cert.notes row action) → ⊥
  no_bad_reason good row action first =
      let cause = first.cause in
      elim (accounted job is_job cert.rows cert.notes form.rows good.good.rows row action first.head first.at first.tried) [
        | inl note ↦ cause.2 (subst (HoldsAt job first.head action) (one_note job is_job cert.rows cert.notes form.rows row action note.0 cause.0 note.1 cause.1) note.2)
        | inr free ↦ free.0 cause.0 cause.1
      ]

  no_open_action : IsGoodCert job cert → (row action : ℕ) → IsFirstFault job cert.rows cert.notes row action (IsNotClosed job cert.rows cert.notes row action) → ⊥
  no_open_action good row action first =
      let cause = first.cause in
      elim (accounted job is_job cert.rows cert.notes form.rows good.good.rows row action first.head first.at first.tried) [
        | inl note ↦ cause.0 note.0 note.1
        | inr free ↦ cause.1 free.1
      ]

  -- a certificate with a fault isn't good
  pub fault_is_not_good : (fault : CheckFault) → IsFault job cert fault → IsGoodCert job cert → ⊥
  fault_is_not_good (Cert fault) is good = is
  fault_is_not_good (BadStep index fault) is good = no_bad_step cert.claim cert.steps form.has_steps good.good.claimed index fault is
  fault_is_not_good Unfinished is good = no_unfinished cert.claim cert.steps good.good.claimed is
  fault_is_not_good BadCost is good = no_bad_cost cert.claim cert.steps good.good.claimed is
  fault_is_not_good (BadReason row action) is good = no_bad_reason good row action is.1
  fault_is_not_good (NotClosed row action) is good = no_open_action good row action is.1
  fault_is_not_good TooLow is good = is.1 good.good.proved
  fault_is_not_good NoMemory is good = is
