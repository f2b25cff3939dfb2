-- What is known of the actions at a set of folded bends. Costs are in tenths of a second.
use Rattle.std.specs.Prelude.{◌≡◌, ◌≢◌, ◌⊎◌, ℕ, ◌+◌, ◌*◌, ◌^◌, ◌<◌, ◌≤◌, true, false}
use Rattle.std.specs.Prelude.{Some, None, List, length, slice_get, slice_set}
use Rattle.brake_base.specs.declared.mask.Mask.{Mask}
use Rattle.brake_base.specs.declared.stroke.Key.{Key}
use Rattle.brake_base.specs.declared.stroke.Action.{Action}
use Rattle.brake_base.specs.declared.stroke.Gauge.{Gauge}
use Rattle.brake_base.specs.declared.stroke.Worth.{Worth}
use Rattle.brake_base.specs.declared.stroke.Worth.TheVariants.{Cost, Blocked}
use Rattle.brake_base.specs.declared.reason.Reason.{Reason}
use Rattle.brake_base.specs.Actions.{number_of_action}
use Rattle.stage_lanes.specs.declared.actions.ActionSet.{ActionSet}
use Rattle.stage_lanes.specs.ActionSets.{place_of, has, has_place, IsNone}
use Rattle.action_lanes.specs.declared.costs.ActionCosts.{ActionCosts}
use Rattle.action_lanes.specs.Costs.{cost_at, AreCosts}
use Rattle.job_setup.specs.Setup.{JobData, bend_count, stage_count}
use Rattle.set_facts.specs.LaneFacts.{key_at}
use Rattle.handling_cost.specs.StepCost.{IsActionOf, IsActionAt, key_after}
use Rattle.handling_cost.specs.Plan.{IsReasonFor, IsLegal}
use Rattle.handling_cost.specs.Bound.{bound_of, sum_of}
use Rattle.row_pool.specs.Rows.{Pool, PoolRow, common_at}
use Rattle.bb_search.specs.declared.known.KnownActions.{KnownActions}
use Rattle.bb_search.specs.declared.settle.Choice.{Choice}
use Rattle.bb_search.specs.Settling.{IsKnown}

-- what a contract sees of a search's table: the job, and what is known at each set by its number
pub record TableData : Type 0 where
  pub job : JobData
  pub known : List KnownActions

-- how much the worth of a key is above its bound; where it is blocked, what no way on costs
abbrev pub IsSlack : JobData → Key → Worth → ℕ → Type 0
IsSlack job key (Cost worth) slack = slack + bound_of job key ≡ worth
IsSlack job key Blocked slack = slack ≡ 536870912

-- the key to which an action leads where the bends of the mask are folded
abbrev pub next_of : JobData → Mask → Action → Key
next_of job mask action = key_after job (key_at mask 0) action

-- the slack of an action
abbrev pub slack_of : KnownActions → Action → ℕ
slack_of at action = cost_at at.slack (place_of action)

-- no slack is above what no way on costs
abbrev pub HasSmallSlack : KnownActions → Type 0
HasSmallSlack at = (place : ℕ) → place < 192 → cost_at at.slack place ≤ 536870912

-- nothing is known of any action
pub record KnowsNothing (at : KnownActions) : Type 0 where
  pub known : IsNone at.known
  pub refused : IsNone at.refused
  pub slack : AreCosts at.slack (λ place. 536870912)

-- the action is legal with some gauge, and this is the slack of its next key's worth
pub record IsFreeWith (job : JobData) (rows : List PoolRow) (mask : Mask) (action : Action)
    (slack : ℕ) : Type 0 where
  pub legal :
      (gauge : Gauge) × IsLegal job (key_at mask 0) (record { action = action; gauge = gauge })
  pub worth :
      (worth : Worth) × IsKnown job rows (next_of job mask action) worth
      × IsSlack job (next_of job mask action) worth slack

-- the pool's rows with this set have a reason in common for the action
abbrev pub HasCommon : JobData → Pool → Mask → Action → Type 0
HasCommon job pool mask action =
    common_at pool mask (number_of_action (stage_count job) action) ≢ None

-- what is known of the actions at a set is so
pub record AreKnownAt (job : JobData) (pool : Pool) (mask : Mask) (at : KnownActions)
    : Type 0 where
  pub unknown :
      (action : Action) → IsActionAt job (key_at mask 0) action → has at.known action ≡ false
      → (has at.refused action ≡ false) × (slack_of at action ≡ 536870912)
  pub refused :
      (action : Action) → IsActionAt job (key_at mask 0) action → has at.known action ≡ true
      → has at.refused action ≡ true
      → HasCommon job pool mask action × (slack_of at action ≡ 536870912)
  pub free :
      (action : Action) → IsActionAt job (key_at mask 0) action → has at.known action ≡ true
      → has at.refused action ≡ false
      → IsFreeWith job pool.rows mask action (slack_of at action)
  pub small : HasSmallSlack at

-- each reason that the pool's rows have in common holds
abbrev pub CommonHold : JobData → Pool → Type 0
CommonHold job pool =
    (mask : Mask) (action : Action) (reason : Reason) → IsActionOf job action
    → common_at pool mask (number_of_action (stage_count job) action) ≡ Some reason
    → IsReasonFor job mask action reason

-- what a table knows at each set of the job's bends is so, and the reasons to which it points hold
pub record AreKnown (job : JobData) (pool : Pool) (table : TableData) : Type 0 where
  pub its_job : table.job ≡ job
  pub places : length table.known ≡ 2 ^ bend_count job
  pub each :
      (mask : Mask) (at : KnownActions) → slice_get table.known mask.0 ≡ Some at
      → AreKnownAt job pool mask at
  pub actions : pool.actions ≡ 24 * stage_count job
  pub commons : length pool.common ≡ 65536 * pool.actions
  pub hold : CommonHold job pool

-- the actions in a set are actions at the key
abbrev pub AreActionsAt : JobData → Key → ActionSet → Type 0
AreActionsAt job key set =
    (place : ℕ) → place < 192 → has_place set place ≡ true
    → (action : Action) × IsActionAt job key action × (place_of action ≡ place)

-- no action at the key can give less than this, by the slack that is known
abbrev pub HasLeast : JobData → Key → ℕ → KnownActions → Type 0
HasLeast job key best at =
    (action : Action) → IsActionAt job key action
    → best ≤ sum_of job key action + slack_of at action

-- What a key's worth is by what is known of its actions, and which of them a search by their sums
-- tests until it has that.
pub record IsChoice (job : JobData) (key : Key) (at : KnownActions) (choice : Choice)
    : Type 0 where
  pub capped : choice.best ≤ 536870912
  pub least : HasLeast job key choice.best at
  pub attained :
      (choice.best ≡ 536870912)
      ⊎ ((action : Action) × IsActionAt job key action
      × (sum_of job key action + slack_of at action ≡ choice.best))
  pub only : AreActionsAt job key choice.tested
  pub most :
      (action : Action) → IsActionAt job key action → has choice.tested action ≡ true
      → sum_of job key action ≤ choice.best
  pub rest :
      (action : Action) → IsActionAt job key action → has choice.tested action ≡ false
      → choice.best ≤ sum_of job key action

-- no less than this can come of an action at the key: not of one whose next key's worth is known,
-- and not of one of which the sum alone counts
pub record IsFloor (job : JobData) (key : Key) (at : KnownActions) (floor : ℕ) : Type 0 where
  pub sums :
      (action : Action) → IsActionAt job key action → has at.known action ≡ false
      → floor ≤ sum_of job key action
  pub worths :
      (action : Action) → IsActionAt job key action
      → floor ≤ sum_of job key action + slack_of at action

-- actions at the key that aren't known yet and that may give less than is known: one that isn't
-- among them can't
pub record AreOpen (job : JobData) (key : Key) (at : KnownActions) (best : ℕ) (set : ActionSet)
    : Type 0 where
  pub only : AreActionsAt job key set
  pub unknown :
      (action : Action) → IsActionAt job key action → has set action ≡ true
      → has at.known action ≡ false
  pub most :
      (action : Action) → IsActionAt job key action → has set action ≡ true
      → sum_of job key action ≤ best
  pub rest :
      (action : Action) → IsActionAt job key action → has at.known action ≡ false
      → (has set action ≡ true) ⊎ (best ≤ sum_of job key action)

-- one action more is known, and of all others just what was known
pub record IsToldOf (action : Action) (before after : KnownActions) : Type 0 where
  pub here : has after.known action ≡ true
  pub known :
      (place : ℕ) → place < 192 → place ≢ place_of action
      → has_place after.known place ≡ has_place before.known place
  pub refused :
      (place : ℕ) → place < 192 → place ≢ place_of action
      → has_place after.refused place ≡ has_place before.refused place
  pub slack :
      (place : ℕ) → place < 192 → place ≢ place_of action
      → cost_at after.slack place ≡ cost_at before.slack place

-- a reason refuses the action
pub record IsRefusal (action : Action) (before after : KnownActions) : Type 0 where
  pub told : IsToldOf action before after
  pub refused : has after.refused action ≡ true
  pub slack : slack_of after action ≡ slack_of before action

-- the slack of the action is known
pub record IsLearnt (action : Action) (above : ℕ) (before after : KnownActions) : Type 0 where
  pub told : IsToldOf action before after
  pub refused : has after.refused action ≡ has before.refused action
  pub slack : slack_of after action ≡ above

-- what is known at one set has changed so
abbrev pub IsChangedAt :
    (KnownActions → KnownActions → Type 0) → ℕ → List KnownActions → List KnownActions → Type 0
IsChangedAt IsSo place before after =
    (old new : KnownActions) × (slice_get before place ≡ Some old)
    × (after ≡ slice_set before place new) × IsSo old new

-- no action in the set has a cost below this
abbrev pub HasNoneBelow : ActionCosts → ActionSet → ℕ → Type 0
HasNoneBelow costs set limit =
    (place : ℕ) → place < 192 → has_place set place ≡ true → limit ≤ cost_at costs place

-- a cost as a worth: what no way on costs is that of a blocked key
abbrev pub IsWorthOf : ℕ → Worth → Type 0
IsWorthOf cost worth =
    ((worth ≡ Cost cost) × (cost < 536870912)) ⊎ ((worth ≡ Blocked) × (cost ≡ 536870912))
