-- Why the steps of a certificate are no plan of the claimed cost. Costs are in tenths of a second.
use Rattle.std.specs.Prelude.{◌≡◌, ◌≢◌, ℕ, zero, suc, false, List, [], ◌∷◌, IsTrue}
use Rattle.brake_base.specs.declared.stroke.Key.{Key}
use Rattle.brake_base.specs.declared.stroke.Step.{Step}
use Rattle.brake_base.specs.declared.stroke.Worth.{Worth}
use Rattle.brake_base.specs.declared.stroke.Worth.TheVariants.{Cost, Blocked}
use Rattle.brake_base.specs.declared.reason.Reason.{Reason}
use Rattle.brake_base.specs.declared.reason.Reason.TheVariants.{NoGauge}
use Rattle.brake_base.specs.Masks.{has}
use Rattle.job_setup.specs.Setup.{JobData}
use Rattle.job_setup.specs.StrokeGroup.{group_of, is_lead}
use Rattle.job_setup.specs.Reasons.{IsFirstReason}
use Rattle.handling_cost.specs.StepCost.{IsActionAt, IsFull, key_after}
use Rattle.handling_cost.specs.Plan.{IsGaugeFor, IsUnopposed, IsLegal, IsPlan, total, start}
use Rattle.cert_check.specs.declared.fault.StepFault.{StepFault}
use Rattle.cert_check.specs.declared.fault.StepFault.TheVariants.{AlreadyFolded, NotLead, Hit}
use Rattle.cert_check.specs.declared.fault.StepFault.TheVariants.{BadGauge}

-- the first reason against the step's stroke is of another kind than that no gauge is legal
abbrev pub IsFirstHit : JobData → Key → Step → Reason → Type 0
IsFirstHit job key step reason = (reason ≢ NoGauge)
    × IsFirstReason job key.mask (group_of job key.mask step.action.bend) step.action.back
    step.action.stage reason

-- the first cause for which a step isn't legal at a key
abbrev pub IsStepFault : JobData → Key → Step → StepFault → Type 0
IsStepFault job key step AlreadyFolded = IsTrue (has key.mask step.action.bend)
IsStepFault job key step NotLead =
    (has key.mask step.action.bend ≡ false) × (is_lead job key.mask step.action.bend ≡ false)
IsStepFault job key step (Hit reason) =
    IsActionAt job key step.action × IsFirstHit job key step reason
IsStepFault job key step BadGauge =
    IsActionAt job key step.action × IsUnopposed job key.mask step.action
    × (IsGaugeFor job key.mask step.action step.gauge → ⊥)

-- the step of the index isn't legal for this cause, and all before it are legal
abbrev pub IsFirstBadStep : JobData → Key → List Step → ℕ → StepFault → Type 0
IsFirstBadStep job key [] index fault = ⊥
IsFirstBadStep job key (step ∷ steps) zero fault = IsStepFault job key step fault
IsFirstBadStep job key (step ∷ steps) (suc index) fault =
    IsLegal job key step × IsFirstBadStep job (key_after job key step.action) steps index fault

-- steps, each legal at the key to which those before it lead, and the last leads to this key
abbrev pub AreLegal : JobData → Key → List Step → Key → Type 0
AreLegal job key [] last = last ≡ key
AreLegal job key (step ∷ steps) last =
    IsLegal job key step × AreLegal job (key_after job key step.action) steps last

-- legal steps that leave a bend unfolded, where a cost is claimed
abbrev pub AreUnfinished : JobData → Worth → List Step → Type 0
AreUnfinished job (Cost cost) steps =
    (last : Key) × AreLegal job start steps last × (IsFull job last → ⊥)
AreUnfinished job Blocked steps = ⊥

-- a plan of another cost than is claimed
abbrev pub IsBadCost : JobData → Worth → List Step → Type 0
IsBadCost job (Cost cost) steps = IsPlan job steps × (total job start steps ≢ cost)
IsBadCost job Blocked steps = ⊥
