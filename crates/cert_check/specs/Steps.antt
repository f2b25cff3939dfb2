-- What a check of the steps comes to.
use Rattle.std.specs.Prelude.{◌≡◌, ◌≢◌, ℕ, List, Result, Ok, Err}
use Rattle.brake_base.specs.declared.stroke.Key.{Key}
use Rattle.brake_base.specs.declared.stroke.Step.{Step}
use Rattle.brake_base.specs.declared.stroke.Worth.{Worth}
use Rattle.job_setup.specs.Setup.{JobData}
use Rattle.handling_cost.specs.StepCost.{IsFull}
use Rattle.handling_cost.specs.Plan.{total, start}
use Rattle.handling_cost.specs.Good.{AreClaimed}
use Rattle.cert_check.specs.declared.fault.CheckFault.{CheckFault}
use Rattle.cert_check.specs.declared.fault.CheckFault.TheVariants.{BadStep, BadCost, Unfinished}
use Rattle.cert_check.specs.StepFaults.{IsFirstBadStep, AreLegal, AreUnfinished, IsBadCost}

-- a step that isn't legal, and nothing else
abbrev pub IsBadStep : JobData → Key → List Step → CheckFault → Type 0
IsBadStep job key steps (BadStep index fault) = IsFirstBadStep job key steps index fault
IsBadStep job key steps _ = ⊥

-- the key to which legal steps lead and their cost, or the first step that isn't legal
abbrev pub FollowAnswer : JobData → Key → List Step → Result (Key × ℕ) CheckFault → Type 0
FollowAnswer job key steps (Ok end) = AreLegal job key steps end.0 × (end.1 ≡ total job key steps)
FollowAnswer job key steps (Err fault) = IsBadStep job key steps fault

-- every bend is folded and the cost is the claimed one, or the first of both that isn't so
abbrev pub CostAnswer : JobData → Key → ℕ → ℕ → Result (Unit {0}) CheckFault → Type 0
CostAnswer job last cost claimed (Ok _) = IsFull job last × (cost ≡ claimed)
CostAnswer job last cost claimed (Err Unfinished) = IsFull job last → ⊥
CostAnswer job last cost claimed (Err BadCost) = IsFull job last × (cost ≢ claimed)
CostAnswer job last cost claimed (Err _) = ⊥

-- the first cause for which steps aren't a plan of the claimed cost
abbrev pub AreFaulty : JobData → Worth → List Step → CheckFault → Type 0
AreFaulty job claim steps (BadStep index fault) = IsFirstBadStep job start steps index fault
AreFaulty job claim steps Unfinished = AreUnfinished job claim steps
AreFaulty job claim steps BadCost = IsBadCost job claim steps
AreFaulty job claim steps _ = ⊥

-- the steps are as claimed, or the first cause for which they aren't
abbrev pub StepsAnswer : JobData → Worth → List Step → Result (Unit {0}) CheckFault → Type 0
StepsAnswer job claim steps (Ok _) = AreClaimed job claim steps
StepsAnswer job claim steps (Err fault) = AreFaulty job claim steps fault
