-- Steps one after the other, as a loop meets them.
use Rattle.std.proofs.Common.{◌≡◌, ◌≢◌, ℕ, zero, suc, ◌+◌, ◌<◌, ◌≤◌, List, [], ◌∷◌, Result, Ok, Err, length, get_or, drop, drop-cons, add-one, sym, ◌∙◌, ap, subst, arith}
use Rattle.brake_base.specs.declared.stroke.Key.{Key}
use Rattle.brake_base.specs.declared.stroke.Step.{Step}
use Rattle.brake_base.specs.declared.reason.Reason.{Reason}
use Rattle.brake_base.specs.declared.reason.Reason.TheVariants.{NoGauge}
use Rattle.job_setup.specs.Setup.{JobData}
use Rattle.job_setup.specs.StrokeGroup.{group_of}
use Rattle.job_setup.specs.Reasons.{IsReason}
use Rattle.handling_cost.specs.StepCost.{IsFull, key_after}
use Rattle.handling_cost.specs.Plan.{IsReasonFor, IsLegal, IsRest, total, start}
use Rattle.handling_cost.proofs.Actions.{lead_is, few_bends}
use Rattle.brake_base.specs.declared.stroke.Worth.{Worth}
use Rattle.brake_base.specs.declared.stroke.Worth.TheVariants.{Cost, Blocked}
use Rattle.job_setup.specs.ValidJob.{IsJob}
use Rattle.plan_cert.specs.WellFormed.{HasSteps}
use Rattle.cert_check.specs.declared.fault.CheckFault.{CheckFault}
use Rattle.cert_check.specs.declared.fault.CheckFault.TheVariants.{Unfinished, BadCost}
use Rattle.cert_check.specs.Steps.{CostAnswer, StepsAnswer}
use Rattle.cert_check.specs.declared.fault.StepFault.{StepFault}
use Rattle.cert_check.specs.declared.fault.StepFault.TheVariants.{AlreadyFolded, NotLead, Hit, BadGauge}
use Rattle.cert_check.specs.StepFaults.{IsStepFault, IsFirstBadStep, AreLegal}

-- Steps from a place on, at the key to which those before it lead: what they come to, all of them come to.
pub record Leads (job : JobData) (first : Key) (steps : List Step) (i : ℕ) (key : Key) : Type 0 where
  pub legal : (last : Key) → AreLegal job key (drop i steps) last → AreLegal job first steps last
  pub bad : (k : ℕ) (fault : StepFault) → IsFirstBadStep job key (drop i steps) k fault → IsFirstBadStep job first steps (i + k) fault

pub leads_start : (job : JobData) (first : Key) (steps : List Step) → Leads job first steps 0 first
leads_start job first steps = record { legal = λ last legal. legal; bad = λ k fault bad. subst (λ (n : ℕ). IsFirstBadStep job first steps n fault) (omega arith) bad }

module _ (job : JobData) (first key : Key) (steps : List Step) (i : ℕ) (d : Step) (within : i < length steps) (leads : Leads job first steps i key) where
  -- the step at the place isn't legal
  pub bad_here : (fault : StepFault) → IsStepFault job key (get_or steps i d) fault → IsFirstBadStep job first steps i fault
  bad_here fault is =
      let here : IsFirstBadStep job key (drop i steps) 0 fault = subst (λ (rest : List Step). IsFirstBadStep job key rest 0 fault) (sym (drop-cons steps i d within)) is in
      subst (λ (n : ℕ). IsFirstBadStep job first steps n fault) (omega arith) (leads.bad 0 fault here)

  -- it is legal, and leads to the next key
  pub leads_on : (next : Key) → next ≡ key_after job key (get_or steps i d).action → IsLegal job key (get_or steps i d) → Leads job first steps (i + 1) next
  leads_on next is legal = record {
    legal = λ last rest.
        let behind = subst (λ (k : Key). AreLegal job k (drop (suc i) steps) last) is (subst (λ (n : ℕ). AreLegal job next (drop n steps) last) (add-one i) rest) in
        leads.legal last (subst (λ (tail : List Step). AreLegal job key tail last) (sym (drop-cons steps i d within)) (legal, behind));
    bad = λ k fault rest.
        let behind = subst (λ (at : Key). IsFirstBadStep job at (drop (suc i) steps) k fault) is (subst (λ (n : ℕ). IsFirstBadStep job next (drop n steps) k fault) (add-one i) rest) in
        let here : IsFirstBadStep job key (drop i steps) (suc k) fault =
        subst (λ (tail : List Step). IsFirstBadStep job key tail (suc k) fault) (sym (drop-cons steps i d within)) (legal, behind) in
        subst (λ (n : ℕ). IsFirstBadStep job first steps n fault) (omega arith) (leads.bad (suc k) fault here);
  }

-- legal steps after which every bend is folded are a rest
pub legal_rest : (job : JobData) (key last : Key) (steps : List Step) → AreLegal job key steps last → IsFull job last → IsRest job key steps
legal_rest job key last [] legal full = subst (IsFull job) legal full
legal_rest job key last (step ∷ steps) legal full = (legal.0, legal_rest job (key_after job key step.action) last steps legal.1 full)

hit_not_legal : (job : JobData) (key : Key) (step : Step) (reason : Reason) → reason ≢ NoGauge → IsReason job key.mask (group_of job key.mask step.action.bend) step.action.back step.action.stage reason → IsLegal job key step → ⊥
unfolding IsReasonFor
hit_not_legal job key step reason other holds legal = legal.free reason other holds

-- a rest has no step that isn't legal, and leaves no bend unfolded
pub fault_not_legal : (job : JobData) (key : Key) (step : Step) (fault : StepFault) → IsStepFault job key step fault → IsLegal job key step → ⊥
fault_not_legal job key step AlreadyFolded folded legal = let flat = (lead_is job key.mask step.action.bend legal.action.lead).flat in cc
fault_not_legal job key step NotLead is legal = let no = is.1 in let lead = legal.action.lead in cc
fault_not_legal job key step (Hit reason) is legal = hit_not_legal job key step reason is.1.0 is.1.1.holds legal
fault_not_legal job key step BadGauge is legal = is.2 legal.gauge

pub rest_has_no_fault : (job : JobData) (key : Key) (steps : List Step) (k : ℕ) (fault : StepFault) → IsFirstBadStep job key steps k fault → IsRest job key steps → ⊥
rest_has_no_fault job key [] k fault bad rest = bad
rest_has_no_fault job key (step ∷ steps) zero fault bad rest = fault_not_legal job key step fault bad rest.0
rest_has_no_fault job key (step ∷ steps) (suc k) fault bad rest = rest_has_no_fault job (key_after job key step.action) steps k fault bad.1 rest.1

pub rest_is_full : (job : JobData) (key last : Key) (steps : List Step) → AreLegal job key steps last → IsRest job key steps → IsFull job last
rest_is_full job key last [] legal rest = subst (IsFull job) (sym legal) rest
rest_is_full job key last (step ∷ steps) legal rest = rest_is_full job (key_after job key step.action) last steps legal.1 rest.1

-- what the key to which all steps lead and their cost say of a claimed cost
pub steps_answer : (job : JobData) (claimed : ℕ) (steps : List Step) (last : Key) (cost : ℕ) (result : Result (Unit {0}) CheckFault) → AreLegal job start steps last → cost ≡ total job start steps
    → CostAnswer job last cost claimed result → StepsAnswer job (Cost claimed) steps result
steps_answer job claimed steps last cost (Ok done) legal sum answer = (legal_rest job start last steps legal answer.0, sym sum ∙ answer.1)
steps_answer job claimed steps last cost (Err Unfinished) legal sum answer = (last, legal, answer)
steps_answer job claimed steps last cost (Err BadCost) legal sum answer = (legal_rest job start last steps legal answer.0, λ same. answer.1 (sum ∙ same))
steps_answer job claimed steps last cost (Err _) legal sum answer = absurd answer

-- a certificate has at most a step for each bend
pub few_steps : (job : JobData) (claim : Worth) (steps : List Step) → IsJob job → HasSteps job claim steps → length steps ≤ 12
few_steps job (Cost cost) steps is_job few = let bends = few_bends job is_job in omega (arith, few, bends)
few_steps job Blocked steps is_job none = let same = ap length none in omega (arith, same)
