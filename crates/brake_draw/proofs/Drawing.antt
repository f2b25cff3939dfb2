-- What was proved of a certificate's text, and what is drawn of it.
use Rattle.std.proofs.Common.{◌≡◌, ◌⊎◌, inl, inr, ℕ, List, length, Result, Ok, Err, refl, sym, ap, subst, ◌∙◌}
use Rattle.brake_base.specs.declared.stroke.Step.{Step}
use Rattle.brake_base.specs.declared.stroke.Worth.{Worth}
use Rattle.brake_base.specs.declared.stroke.Worth.TheVariants.{Cost, Blocked}
use Rattle.job_setup.specs.Setup.{JobData}
use Rattle.handling_cost.specs.Plan.{IsPlan, total, start}
use Rattle.handling_cost.specs.Claim.{IsTrueClaim}
use Rattle.handling_cost.specs.Good.{AreClaimed}
use Rattle.plan_lines.specs.declared.item.CertFault.{CertFault}
use Rattle.plan_lines.specs.declared.item.CertFault.TheVariants as cert
use Rattle.plan_cert.specs.Cert.{CertData}
use Rattle.plan_cert.specs.GoodCert.{IsGoodCert}
use Rattle.plan_cert.specs.CertReading.{CertFileData, cert_file_of}
use Rattle.plan_cert.specs.ExactTexts.{GivesBack}
use Rattle.cert_check.specs.declared.fault.CheckFault.{CheckFault}
use Rattle.cert_check.specs.declared.fault.CheckFault.TheVariants as check
use Rattle.cert_check.specs.declared.verdict.Verdict.{Verdict}
use Rattle.cert_check.specs.Texts.{IsTextOfCert}
use Rattle.cert_check.specs.Checking.{IsAccepted, IsAnswer, IsTrueOf, verdict_of}
use Rattle.sheet_page.specs.Page.{IsPlanPage, IsNoPlanPage}
use Rattle.command_runner.specs.declared.status.Status.TheVariants.{Done, NoPlan}
use Rattle.command_runner.specs.Answers.{AnswerData}
use Rattle.brake_draw.specs.Draw.{told_size, IsPageFor, drawn_line, no_plan_line, claim_line, claim_status, stored_page, IsProved, IsDrawn}

-- the verdict that a claim has is true where the claim is
claim_true : (job : JobData) (claim : Worth) → IsTrueOf job (verdict_of claim) → IsTrueClaim job claim
claim_true job (Cost cost) true_of = true_of
claim_true job Blocked true_of = true_of

-- two claims of one verdict are one
same_claim : (a b : Worth) → verdict_of a ≡ verdict_of b → a ≡ b
same_claim (Cost a) (Cost b) same = cc
same_claim (Cost a) Blocked same = absurd cc
same_claim Blocked (Cost b) same = absurd cc
same_claim Blocked Blocked same = refl

-- an accepted text is that of a good certificate, whose claim is the verdict and true
pub accepted_proved : (text : List ℕ) (job : JobData) (verdict : Verdict) (claim : Worth) → verdict ≡ verdict_of claim → IsAccepted text (record { verdict = verdict; job = job }) → IsTrueOf job verdict → IsProved text job claim
accepted_proved text job verdict claim is accepted truth = record {
  cert = accepted.cert;
  good = accepted.good;
  claims = same_claim accepted.cert.claim claim (sym accepted.verdict ∙ is);
  truth = claim_true job claim (subst (λ (v : Verdict). IsTrueOf job v) is truth);
}

-- a refusal other than for want of memory is what a check comes to
pub refused_is : (text : List ℕ) (fault : CheckFault) → (fault ≡ check.NoMemory) ⊎ IsAnswer text (Err fault) → (fault ≡ check.NoMemory → ⊥) → IsAnswer text (Err fault)
refused_is text fault (inl memory) other = absurd (other memory)
refused_is text fault (inr is) other = is

abbrev what_is_read : Result CertFileData CertFault → CertFileData → CertFileData
what_is_read (Ok file) other = file
what_is_read (Err fault) other = other

-- what is read of a certificate's text is that certificate, in its version
pub read_again : (text : List ℕ) (job : JobData) (cert : CertData) (file : CertFileData) (written : IsTextOfCert text job cert) → GivesBack text → cert_file_of text ≡ Ok file → record { job = job; cert = cert; version = written.version } ≡ file
read_again text job cert file written gives read =
    ap (λ (r : Result CertFileData CertFault). what_is_read r file) (sym (gives (record { job = job; cert = cert; version = written.version }) written.exact) ∙ read)

-- the page of what was proved, stored with the line of its claim
page_drawn : (name text : List ℕ) (job : JobData) (claim : Worth) (proved : IsProved text job claim) (page : List ℕ) (answer : AnswerData) → IsPageFor claim job proved.cert (told_size text) page
    → answer ≡ stored_page name page (claim_status claim) (claim_line claim (length proved.cert.steps)) → IsDrawn name text answer
page_drawn name text job claim proved page answer shows is = record {
  job = job;
  cert = proved.cert;
  good = proved.good;
  page = page;
  shows = subst (λ (w : Worth). IsPageFor w job proved.cert (told_size text) page) (sym proved.claims) shows;
  answers = is ∙ ap (λ (w : Worth). stored_page name page (claim_status w) (claim_line w (length proved.cert.steps))) (sym proved.claims);
}

-- ---- a plan
module _ (text : List ℕ) (job : JobData) (cost : ℕ) (proved : IsProved text job (Cost cost)) (steps : List Step) (read : steps ≡ proved.cert.steps) where
  claimed : AreClaimed job (Cost cost) proved.cert.steps
  claimed = subst (λ (w : Worth). AreClaimed job w proved.cert.steps) proved.claims proved.good.good.good.claimed

  -- the steps that are read are the plan
  pub read_plan : IsPlan job steps
  read_plan = subst (λ (s : List Step). IsPlan job s) (sym read) claimed.0

  pub read_cost : total job start steps ≡ cost
  read_cost = subst (λ (s : List Step). total job start s ≡ cost) (sym read) claimed.1

  -- its page
  pub plan_drawn : (name page line : List ℕ) (size : ℕ) (answer : AnswerData) → IsPlanPage job steps cost size page → size ≡ told_size text → line ≡ drawn_line (length steps) → answer ≡ stored_page name page Done line → IsDrawn name text answer
  plan_drawn name page line size answer shows told put is = page_drawn name text job (Cost cost) proved page answer (
    record { plan = claimed.0; sum = claimed.1; least = proved.truth.1.least },
    subst (λ (n : ℕ). IsPlanPage job proved.cert.steps cost n page) told (subst (λ (s : List Step). IsPlanPage job s cost size page) read shows),
  )
      (is ∙ ap (λ (l : List ℕ). stored_page name page Done l) (put ∙ ap (λ (s : List Step). drawn_line (length s)) read))

-- ---- no plan
module _ (text : List ℕ) (job : JobData) (proved : IsProved text job Blocked) (gives : GivesBack text) (file : CertFileData) (read : cert_file_of text ≡ Ok file) where
  cert_read : proved.cert ≡ file.cert
  cert_read = ap (λ (f : CertFileData). f.cert) (read_again text job proved.cert file proved.good.written gives read)

  -- the certificate that is read is good, and claims it
  pub read_good : IsGoodCert job file.cert
  read_good = subst (λ (c : CertData). IsGoodCert job c) cert_read proved.good.good

  pub read_claim : file.cert.claim ≡ Blocked
  read_claim = ap (λ (c : CertData). c.claim) (sym cert_read) ∙ proved.claims

  -- its page
  pub no_plan_drawn : (name page line : List ℕ) (size : ℕ) (answer : AnswerData) → IsNoPlanPage job file.cert size page → size ≡ told_size text → line ≡ no_plan_line → answer ≡ stored_page name page NoPlan line → IsDrawn name text answer
  no_plan_drawn name page line size answer shows told put is = page_drawn name text job Blocked proved page answer
      (proved.truth, subst (λ (n : ℕ). IsNoPlanPage job proved.cert n page) told (subst (λ (c : CertData). IsNoPlanPage job c size page) (sym cert_read) shows))
      (is ∙ ap (λ (l : List ℕ). stored_page name page NoPlan l) put)

abbrev IsRead : Result CertFileData CertFault → Type 0
IsRead (Ok file) = Unit {0}
IsRead (Err fault) = ⊥

-- and the text isn't refused, but for want of memory
pub never_refused : (text : List ℕ) (job : JobData) (claim : Worth) (fault : CertFault) → (proved : IsProved text job claim) → GivesBack text → (fault ≡ cert.NoMemory) ⊎ (cert_file_of text ≡ Err fault) → (fault ≡ cert.NoMemory → ⊥) → ⊥
never_refused text job claim fault proved gives (inl memory) other = other memory
never_refused text job claim fault proved gives (inr read) other =
    let is_read : IsRead (cert_file_of text) = subst IsRead (sym (gives (record { job = job; cert = proved.cert; version = proved.good.written.version }) proved.good.written.exact)) tt in
    subst IsRead read is_read
