use Rattle.std.proofs.Common.{◌≡◌, ◌⊎◌, ℕ, ◌+◌, ◌*◌, ◌<◌, ◌≤◌, ◌&&◌, not}
use Rattle.brake_base.specs.declared.stroke.Action.{Action}
use Rattle.stage_lanes.specs.ActionSets.{has_place, ArePlaces}
use Rattle.action_lanes.specs.Cheapest.{AreOnly, AreCheapest}
use Rattle.handling_cost.specs.StepCost.{IsActionAt, left}
use Rattle.handling_cost.specs.Bound.{sum_of}
use Rattle.row_pool.specs.Rows.{Pool}
use Rattle.bb_search.specs.KnownActions.{AreKnown, IsChoice, AreOpen, slack_of}
use Rattle.bb_search.specs.OpenRows.{IsSettlingBy, IsKnownSo, HasChanged, IsSameAbove, unknown_count}
use Rattle.bb_search.proofs.Measures.{place_count, unknown_in}
use Rattle.bb_search.proofs.settle.+settling.Given as goal

-- a key's settling explores actions, each of which asks for the worth of a key with less left
abbrev pub decreases-settle : goal.decreases-settle
decreases-settle l = 4 * left l.job.now l.key.now + 3

abbrev pub decreases-explore : goal.decreases-explore
decreases-explore l = 4 * left l.job.now l.key.now + 2

abbrev pub decreases-try_action : goal.decreases-try_action
decreases-try_action l = 4 * left l.job.now l.key.now + 1

abbrev pub decreases-worth_of : goal.decreases-worth_of
decreases-worth_of l = 4 * left l.job.now l.next.now + 4

-- no action can give less than the limit, and those that aren't untested can't either
abbrev pub invariant-explore-loop-action : goal.invariant-explore-loop-action
invariant-explore-loop-action l = record {
  low : l.limit ≤ l.best + 1;
  least : IsKnownSo l.table l.key.mask (λ at. (action : Action) → IsActionAt l.job l.key action
      → (n : ℕ) → n ≤ l.best → n < l.limit → n ≤ sum_of l.job l.key action + slack_of at action);
  waiting : IsKnownSo l.table l.key.mask (λ at. AreOpen l.job l.key at l.best l.untested);
  sums : AreOnly l.sums l.untested l.untested_sums;
  cheapest : AreCheapest l.untested_sums l.untested l.cheapest;
  settling : (before : Pool) → IsSettlingBy l.job before l.fn.pool l.key l.fn.table
      → IsSettlingBy l.job before l.pool l.key l.table;
  known : AreKnown l.job l.pool l.table;
  fewer : ((l.untested ≡ l.fn.untested) × (l.limit ≡ l.best + 1) × (l.table ≡ l.fn.table))
      ⊎ HasChanged l.fn.table l.table l.key.mask (λ old new. unknown_count new < unknown_count old);
  above : IsSameAbove l.job l.fn.table l.table (left l.job l.key);
  state : l.state ≡ l.fn.state;
  trail : l.trail ≡ l.fn.trail;
}

abbrev pub decreases-explore-loop-action : goal.decreases-explore-loop-action
decreases-explore-loop-action l = place_count l.untested

-- the key is settled by what is known, and what is untested is tested but not known
abbrev pub invariant-settle-loop-leads : goal.invariant-settle-loop-leads
invariant-settle-loop-leads l = record {
  settling : IsSettlingBy l.job l.fn.pool l.pool l.key l.table;
  known : AreKnown l.job l.pool l.table;
  choice : IsKnownSo l.table l.key.mask (λ at. IsChoice l.job l.key at l.choice);
  untested : IsKnownSo l.table l.key.mask (λ at. ArePlaces l.untested
      (λ place. has_place l.choice.tested place && not (has_place at.known place)));
  above : IsSameAbove l.job l.fn.table l.table (left l.job l.key);
  state : l.state ≡ l.fn.state;
  trail : l.trail ≡ l.fn.trail;
}

abbrev pub decreases-settle-loop-leads : goal.decreases-settle-loop-leads
decreases-settle-loop-leads l = unknown_in l.table l.key.mask
