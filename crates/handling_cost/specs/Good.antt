-- What rows and notes prove. A table is given by two relations: which keys have a row of which
-- worth, and which actions have a note of which reason at which key. So neither the order of the
-- rows nor how they are kept plays a part.
use Rattle.std.specs.Prelude.{◌≡◌, ◌⊎◌, ℕ, List, Some, slice_get}
use Rattle.brake_base.specs.declared.stroke.Key.{Key}
use Rattle.brake_base.specs.declared.stroke.Action.{Action}
use Rattle.brake_base.specs.declared.stroke.Step.{Step}
use Rattle.brake_base.specs.declared.stroke.Worth.{Worth}
use Rattle.brake_base.specs.declared.stroke.Worth.TheVariants.{Cost, Blocked}
use Rattle.brake_base.specs.declared.reason.Reason.{Reason}
use Rattle.brake_base.specs.Worths.{IsAtMost, plus}
use Rattle.job_setup.specs.Setup.{JobData}
use Rattle.handling_cost.specs.StepCost.{IsActionAt, key_after, cost_of}
use Rattle.handling_cost.specs.Plan.{IsReasonFor, IsPlan, total, start}
use Rattle.handling_cost.specs.Bound.{bound_of}

-- a worth that stands for a key: its bound, or the worth of its row; what is proved of a key is the
-- greatest of them
abbrev pub Proves : JobData → (Key → Worth → Type 0) → Key → Worth → Type 0
Proves job HasRow key worth = (worth ≡ Cost (bound_of job key)) ⊎ HasRow key worth

-- the step cost and what is proved of the next key are at least the worth
abbrev pub IsClosed : JobData → (Key → Worth → Type 0) → Key → Action → Worth → Type 0
IsClosed job HasRow key action worth =
    (next : Worth) × Proves job HasRow (key_after job key action) next
    × IsAtMost worth (plus (cost_of job key action) next)

-- the condition at one row and action: of the reasons noted against the action one holds, or none
-- is noted and it is closed
abbrev pub MeetsConditionAt :
    JobData → (Key → Worth → Type 0) → (Reason → Type 0) → Key → Worth → Action → Type 0
MeetsConditionAt job HasRow IsNoted key worth action =
    ((reason : Reason) × IsNoted reason × IsReasonFor job key.mask action reason)
    ⊎ (((reason : Reason) → ¬ IsNoted reason) × IsClosed job HasRow key action worth)

-- the condition on rows: it is met at each row, by each action there
abbrev pub MeetsCondition :
    JobData → (Key → Worth → Type 0) → (Key → Action → Reason → Type 0) → Type 0
MeetsCondition job HasRow HasNote =
    (key : Key) (worth : Worth) → HasRow key worth → (action : Action) → IsActionAt job key action
    → MeetsConditionAt job HasRow (HasNote key action) key worth action

-- the steps are a plan that costs what is claimed; a claim that there is no plan asks for nothing
abbrev pub AreClaimed : JobData → Worth → List Step → Type 0
AreClaimed job (Cost cost) steps = IsPlan job steps × (total job start steps ≡ cost)
AreClaimed job Blocked steps = Unit {0}

-- a certificate of a claim is good: its steps are as claimed, its rows meet their condition, and
-- the claim is proved of the start
pub record IsGood (job : JobData) (claim : Worth) (steps : List Step)
    (HasRow : Key → Worth → Type 0) (HasNote : Key → Action → Reason → Type 0) : Type 0 where
  pub claimed : AreClaimed job claim steps
  pub rows : MeetsCondition job HasRow HasNote
  pub proved : (worth : Worth) × Proves job HasRow start worth × IsAtMost claim worth

-- the rows and the notes of a certificate's lists; a note has the number of its row
abbrev pub RowIn : List (Key × Worth) → Key → Worth → Type 0
RowIn rows key worth = (i : ℕ) × (slice_get rows i ≡ Some (key, worth))

abbrev pub NoteIn :
    List (Key × Worth) → List (ℕ × (Action × Reason)) → Key → Action → Reason → Type 0
NoteIn rows notes key action reason =
    (row : ℕ) × (worth : Worth) × (i : ℕ) × (slice_get rows row ≡ Some (key, worth))
    × (slice_get notes i ≡ Some (row, (action, reason)))
