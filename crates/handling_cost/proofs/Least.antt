-- A table that meets the condition on rows proves what its rows say.
use Rattle.std.proofs.Common.{inl, inr, List, [], ◌∷◌}
use Rattle.brake_base.specs.declared.stroke.Key.{Key}
use Rattle.brake_base.specs.declared.stroke.Action.{Action}
use Rattle.brake_base.specs.declared.stroke.Step.{Step}
use Rattle.brake_base.specs.declared.stroke.Worth.{Worth}
use Rattle.brake_base.specs.declared.stroke.Worth.TheVariants.{Cost, Blocked}
use Rattle.brake_base.specs.declared.reason.Reason.{Reason}
use Rattle.brake_base.specs.Worths.{IsAtMost, plus}
use Rattle.brake_base.proofs.Worths.{at_most_through, plus_kept}
use Rattle.job_setup.specs.Setup.{JobData}
use Rattle.job_setup.specs.ValidJob.{IsJob}
use Rattle.handling_cost.specs.StepCost.{IsFull, key_after, cost_of}
use Rattle.handling_cost.specs.Plan.{IsRest, IsPlan, total, start}
use Rattle.handling_cost.specs.Good.{Proves, MeetsCondition, AreClaimed, IsGood}
use Rattle.handling_cost.specs.Claim.{IsTrueClaim}
use Rattle.handling_cost.proofs.Admissible.{bound_is_admissible}
use Rattle.handling_cost.proofs.Legal.{reason_is_not_legal}

module _ (job : JobData) (is_job : IsJob job) (HasRow : Key → Worth → Type 0) (HasNote : Key → Action → Reason → Type 0) (no_full : (key : Key) (worth : Worth) → HasRow key worth → IsFull job key → ⊥) where
  -- good implies least: every rest from a key costs at least what is proved of it, and there is none where that is Blocked
  pub good_implies_least : MeetsCondition job HasRow HasNote → (steps : List Step) (key : Key) (worth : Worth) → Proves job HasRow key worth → IsRest job key steps → IsAtMost worth (Cost (total job key steps))
  good_implies_least rows steps key worth (inl bound) rest = rw bound (bound_is_admissible job is_job key steps rest)
  good_implies_least rows [] key worth (inr row) rest = absurd (no_full key worth row rest)
  good_implies_least rows (step ∷ steps) key worth (inr row) rest =
      elim (rows key worth row step.action rest.0.action) [
        | inl note ↦ absurd (reason_is_not_legal job key step note.0 note.2 rest.0)
        | inr closed ↦ at_most_through worth (plus (cost_of job key step.action) closed.1.0) (Cost (total job key (step ∷ steps))) closed.1.2
            (plus_kept (cost_of job key step.action) closed.1.0 (Cost (total job (key_after job key step.action) steps))
            (good_implies_least rows steps (key_after job key step.action) closed.1.0 closed.1.1 rest.1))
      ]

  -- so every plan of a good certificate's job costs at least the claim, and there is none where the claim is that there is none
  pub good_is_least : (claim : Worth) (steps : List Step) → IsGood job claim steps HasRow HasNote → (other : List Step) → IsPlan job other → IsAtMost claim (Cost (total job start other))
  good_is_least claim steps good other plan =
      let proved = good.proved in
      at_most_through claim proved.0 (Cost (total job start other)) proved.2 (good_implies_least good.rows other start proved.0 proved.1 plan)

-- what is claimed and at most the cost of each plan is a true claim
pub claim_is_true : (job : JobData) (claim : Worth) (steps : List Step) → AreClaimed job claim steps → ((other : List Step) → IsPlan job other → IsAtMost claim (Cost (total job start other))) → IsTrueClaim job claim
claim_is_true job (Cost cost) steps claimed least = (steps, record { plan = claimed.0; sum = claimed.1; least = least })
claim_is_true job Blocked steps claimed least = least

-- the claim of a good certificate is true
pub good_is_true : (job : JobData) → IsJob job → (HasRow : Key → Worth → Type 0) (HasNote : Key → Action → Reason → Type 0) → ((key : Key) (worth : Worth) → HasRow key worth → IsFull job key → ⊥) →
    (claim : Worth) (steps : List Step) → IsGood job claim steps HasRow HasNote → IsTrueClaim job claim
good_is_true job is_job HasRow HasNote no_full claim steps good = claim_is_true job claim steps good.claimed (good_is_least job is_job HasRow HasNote no_full claim steps good)
