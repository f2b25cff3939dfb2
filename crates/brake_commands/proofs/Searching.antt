-- What the calls of a search say to the command that makes them.
use Rattle.std.proofs.Common.{◌≡◌, ℕ, ◌≤◌, Some, None, sym, ap, subst, arith}
use Rattle.brake_base.specs.declared.stroke.Worth.TheVariants as worth
use Rattle.job_setup.specs.Setup.{JobData}
use Rattle.job_setup.specs.ValidJob.{IsJob}
use Rattle.handling_cost.specs.Reach.{nodes, ReachIsAbove}
use Rattle.handling_cost.proofs.Nodes.{reach_within_nodes}
use Rattle.plan_cert.specs.Cert.{CertData}
use Rattle.plan_cert.specs.GoodCert.{IsWithinBudget}
use Rattle.bb_search.specs.declared.outcome.Outcome.{Outcome}
use Rattle.bb_search.specs.declared.outcome.Outcome.TheVariants.{Best, Blocked, Spent}
use Rattle.bb_search.specs.Outcomes.{IsAnswer}
use Rattle.bb_search.specs.Searches.{SearchData, opened}
use Rattle.bb_search.specs.Certificates.{HasAnswer, IsCertificateOf}
use Rattle.brake_commands.specs.PlanAnswer.{IsPlanCert}

-- an opened search is of its job, hasn't run, and has its budget
pub opened_job : (search : SearchData) (job : JobData) (budget : ℕ) → search ≡ opened job budget → job ≡ search.job
opened_job search job budget is = sym (ap (λ (s : SearchData). s.job) is)

pub opened_fresh : (search : SearchData) (job : JobData) (budget : ℕ) → search ≡ opened job budget → search.outcome ≡ None
opened_fresh search job budget is = ap (λ (s : SearchData). s.outcome) is

pub opened_budget : (search : SearchData) (job : JobData) (budget : ℕ) → search ≡ opened job budget → search.budget ≡ budget
opened_budget search job budget is = ap (λ (s : SearchData). s.budget) is

answer_of : (search : SearchData) (outcome : Outcome) → (outcome ≡ Spent → ⊥) → search.outcome ≡ Some outcome → IsAnswer search.job search.pool search.budget search.steps outcome → HasAnswer search
answer_of search (Best cost) not_spent is answer = (worth.Cost cost, is, answer)
answer_of search Blocked not_spent is answer = (worth.Blocked, is, answer)
answer_of search Spent not_spent is answer = absurd (not_spent (λ i. Spent))

-- a run that wasn't spent has what its certificate asks for
pub has_answer : (job : JobData) (search : SearchData) (outcome : Outcome) → (outcome ≡ Spent → ⊥) → search.outcome ≡ Some outcome → job ≡ search.job → IsAnswer job search.pool search.budget search.steps outcome → HasAnswer search
has_answer job search outcome not_spent is same answer =
    answer_of search outcome not_spent is (subst (λ (j : JobData). IsAnswer j search.pool search.budget search.steps outcome) same answer)

pub is_plan_cert : (job : JobData) (search : SearchData) (cert : CertData) → job ≡ search.job → IsCertificateOf search cert → IsPlanCert job cert
is_plan_cert job search cert same is = subst (λ (j : JobData). IsPlanCert j cert) (sym same) (record { proves = is.proves; gauges = is.gauges })

pub is_within : (job : JobData) (search : SearchData) (cert : CertData) (budget : ℕ) → job ≡ search.job → search.budget ≡ budget → IsCertificateOf search cert → IsWithinBudget job budget cert
is_within job search cert budget same given is = subst (λ (j : JobData). IsWithinBudget j budget cert) (sym same) (subst (λ (n : ℕ). IsWithinBudget search.job n cert) given is.few)

-- a budget of as many keys as a job can have is enough
pub enough : (job : JobData) → IsJob job → (most : ℕ) → nodes job ≤ most → ReachIsAbove job most → ⊥
enough job is_job most least above = reach_within_nodes job is_job (above.0, omega (arith, least, above.1), above.2, above.3)

-- a run that was spent has reach above its budget
pub spent_above : (job : JobData) (search : SearchData) (outcome : Outcome) (budget : ℕ) → outcome ≡ Spent → search.budget ≡ budget → IsAnswer job search.pool search.budget search.steps outcome → ReachIsAbove job budget
spent_above job search outcome budget is same answer =
    let used : IsAnswer job search.pool search.budget search.steps Spent = rw is at answer in
    subst (λ (n : ℕ). ReachIsAbove job n) same used.above
