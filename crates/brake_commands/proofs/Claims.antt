-- A good certificate's claim is true of its job.
use Rattle.std.proofs.Common.{◌≡◌, ℕ, zero, suc, List, [], ◌∷◌, Option, Some, All, ap, subst, arith}
use Rattle.std.specs.Prelude.{slice_get, unwrap_or}
use Rattle.brake_base.specs.declared.stroke.Key.{Key}
use Rattle.brake_base.specs.declared.stroke.Step.{Step}
use Rattle.brake_base.specs.declared.stroke.Worth.{Worth}
use Rattle.brake_base.specs.declared.stroke.Worth.TheVariants.{Cost, Blocked}
use Rattle.brake_base.specs.Worths.{IsAtMost}
use Rattle.job_setup.specs.Setup.{JobData}
use Rattle.job_setup.specs.ValidJob.{IsJob}
use Rattle.handling_cost.specs.StepCost.{IsKeyOf, IsFull}
use Rattle.handling_cost.specs.Plan.{IsPlan, total, start}
use Rattle.handling_cost.specs.Good.{AreClaimed}
use Rattle.handling_cost.proofs.Keys.{number_of_full}
use Rattle.handling_cost.proofs.Least.{good_is_least}
use Rattle.setup_sheet.specs.OrderSheet.{AreSteps}
use Rattle.setup_sheet.proofs.PlanTold.{rest_told}
use Rattle.cert_lines.specs.declared.row_head.RowHead.{RowHead}
use Rattle.plan_cert.specs.Cert.{CertData}
use Rattle.plan_lines.specs.LinesFit.{IsRow}
use Rattle.plan_cert.specs.GoodCert.{worths_in, HasRow, HasNote, IsGoodCert}
use Rattle.handling_cost.specs.Claim.{IsTrueClaim}

-- the row of which a key and its worth are told
row_of : (P : RowHead → Type 0) (rows : List RowHead) (i : ℕ) (pair : Key × Worth) → All P rows → slice_get (worths_in rows) i ≡ Some pair → (row : RowHead) × P row × ((row.key, row.worth) ≡ pair)
row_of P [] i pair all is = absurd cc
row_of P (row ∷ rows) zero pair all is = (row, all 0 row (omega arith), ap (λ (o : Option (Key × Worth)). unwrap_or o (row.key, row.worth)) is)
row_of P (row ∷ rows) (suc i) pair all is = row_of P rows i pair (λ k d within. all (suc k) d (omega arith)) is

-- no row's key is full
not_full : (job : JobData) → IsJob job → (rows : List RowHead) (key : Key) (worth : Worth) (i : ℕ) → All (IsRow job) rows → slice_get (worths_in rows) i ≡ Some (key, worth) → IsFull job key → ⊥
not_full job is_job rows key worth i all is full =
    let row = row_of (IsRow job) rows i (key, worth) all is in
    let here : row.0.key ≡ key = ap (λ (p : Key × Worth). p.0) row.2 in
    let ranged : IsKeyOf job row.0.key = record { mask = omega (arith, row.1.mask); attitude = row.1.attitude; stage = row.1.stage } in
    let number = number_of_full job is_job key (subst (IsKeyOf job) here ranged) full in
    let same : row.0.key.mask.0 ≡ key.mask.0 = ap (λ (k : Key). k.mask.0) here in
    omega (arith, number, same, row.1.mask)

claim_true : (job : JobData) (claim : Worth) (steps : List Step) → AreClaimed job claim steps → ((other : List Step) → IsPlan job other → IsAtMost claim (Cost (total job start other))) → IsTrueClaim job claim
claim_true job (Cost cost) steps claimed least = (steps, record { plan = claimed.0; sum = claimed.1; least = least })
claim_true job Blocked steps claimed least = λ other plan. least other plan

pub good_claim_true : (job : JobData) (cert : CertData) → IsJob job → IsGoodCert job cert → IsTrueClaim job cert.claim
good_claim_true job cert is_job good =
    claim_true job cert.claim cert.steps good.good.claimed
    (good_is_least job is_job (HasRow cert) (HasNote job cert) (λ key worth row full. not_full job is_job cert.rows key worth row.0 good.form.rows.each_row row.1 full) cert.claim cert.steps good.good)

-- the steps of a claimed cost are ones that the order sheet can tell
pub claimed_told : (job : JobData) (cert : CertData) (cost : ℕ) → IsGoodCert job cert → cert.claim ≡ Cost cost → AreSteps job start cert.steps
claimed_told job cert cost good is =
    let claimed : AreClaimed job (Cost cost) cert.steps = subst (λ (claim : Worth). AreClaimed job claim cert.steps) is good.good.claimed in
    rest_told job start cert.steps claimed.0
