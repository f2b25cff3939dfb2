-- Tables that say the same or more, and what closed means by what is proved of a key.
use Rattle.std.proofs.Common.{◌↔◌, inl, inr}
use Rattle.brake_base.specs.declared.stroke.Key.{Key}
use Rattle.brake_base.specs.declared.stroke.Action.{Action}
use Rattle.brake_base.specs.declared.stroke.Worth.{Worth}
use Rattle.brake_base.specs.declared.reason.Reason.{Reason}
use Rattle.brake_base.specs.Worths.{IsAtMost, plus}
use Rattle.brake_base.proofs.Worths.{at_most_self, at_most_through, plus_kept}
use Rattle.job_setup.specs.Setup.{JobData}
use Rattle.handling_cost.specs.StepCost.{key_after, cost_of}
use Rattle.handling_cost.specs.Good.{Proves, IsClosed, MeetsConditionAt, MeetsCondition}
use Rattle.handling_cost.specs.Proved.{IsProvedWorth, Grows}

module _ (job : JobData) (R S : Key → Worth → Type 0) (to : (key : Key) (worth : Worth) → R key worth → S key worth) where
  pub proves_moved : (key : Key) (worth : Worth) → Proves job R key worth → Proves job S key worth
  proves_moved key worth (inl bound) = inl bound
  proves_moved key worth (inr row) = inr (to key worth row)

  pub closed_moved : (key : Key) (action : Action) (worth : Worth) → IsClosed job R key action worth → IsClosed job S key action worth
  closed_moved key action worth closed = (closed.0, proves_moved (key_after job key action) closed.0 closed.1, closed.2)

-- a table with the same rows and notes, in whatever order, meets the condition on rows too
pub condition_moved : (job : JobData) (R S : Key → Worth → Type 0) (N M : Key → Action → Reason → Type 0) →
    ((key : Key) (worth : Worth) → R key worth → S key worth) → ((key : Key) (worth : Worth) → S key worth → R key worth) →
    ((key : Key) (action : Action) (reason : Reason) → N key action reason → M key action reason) → ((key : Key) (action : Action) (reason : Reason) → M key action reason → N key action reason) →
    MeetsCondition job R N → MeetsCondition job S M
condition_moved job R S N M rows back notes back_notes good key worth row action at = elim (good key worth (back key worth row) action at) [
  | inl note ↦ inl (note.0, notes key action note.0 note.1, note.2)
  | inr free ↦ inr ((λ reason note. free.0 reason (back_notes key action reason note)), closed_moved job R S rows key action worth free.1)
]

-- where a table's rows are kept or grow, what is closed stays so
module _ (job : JobData) (R S : Key → Worth → Type 0) (grows : Grows R S) where
  pub proves_grown : (key : Key) (worth : Worth) → Proves job R key worth → (more : Worth) × Proves job S key more × IsAtMost worth more
  proves_grown key worth (inl bound) = (worth, inl bound, at_most_self worth)
  proves_grown key worth (inr row) = let grown = grows key worth row in (grown.0, inr grown.1, grown.2)

  pub closed_grown : (key : Key) (action : Action) (worth : Worth) → IsClosed job R key action worth → IsClosed job S key action worth
  closed_grown key action worth closed =
      let grown = proves_grown (key_after job key action) closed.0 closed.1 in
      let cost = cost_of job key action in
      (grown.0, grown.1, at_most_through worth (plus cost closed.0) (plus cost grown.0) closed.2 (plus_kept cost closed.0 grown.0 grown.2))

  -- and the condition at an action with the same notes stays met
  pub condition_grown : (N M : Reason → Type 0) → ((reason : Reason) → N reason → M reason) → ((reason : Reason) → M reason → N reason) →
      (key : Key) (worth : Worth) (action : Action) → MeetsConditionAt job R N key worth action → MeetsConditionAt job S M key worth action
  condition_grown N M to from key worth action (inl note) = inl (note.0, to note.0 note.1, note.2)
  condition_grown N M to from key worth action (inr free) = inr ((λ reason noted. free.0 reason (from reason noted)), closed_grown key action worth free.1)

-- an action is closed exactly where its step cost and what is proved of the next key are enough
pub closed_by_greatest : (job : JobData) (R : Key → Worth → Type 0) (key : Key) (action : Action) (worth greatest : Worth) →
    IsProvedWorth job R (key_after job key action) greatest → IsClosed job R key action worth ↔ IsAtMost worth (plus (cost_of job key action) greatest)
closed_by_greatest job R key action worth greatest proved = (
  λ closed. at_most_through worth (plus (cost_of job key action) closed.0) (plus (cost_of job key action) greatest) closed.2 (plus_kept (cost_of job key action) closed.0 greatest (proved.most closed.0 closed.1)),
  λ enough. (greatest, proved.stands, enough),
)
