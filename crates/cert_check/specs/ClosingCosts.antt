-- What closes the actions of rows that are held alike and have the same notes, a lane for each
-- stage. Costs are in tenths of a second.
use Rattle.std.specs.Prelude.{◌⊎◌, ℕ, ◌+◌, ◌*◌, ◌^◌, ◌<◌, ◌≤◌, IsTrue, IfSome, List}
use Rattle.std.specs.Prelude.{slice_index}
use Rattle.brake_base.specs.declared.stroke.Back.{Back}
use Rattle.stage_lanes.specs.declared.actions.ActionSet.{ActionSet}
use Rattle.stage_lanes.specs.ActionSets.{side_of, has_place}
use Rattle.action_lanes.specs.Costs.{cost_at}
use Rattle.job_setup.specs.Setup.{JobData, bend_count, stage_count}
use Rattle.job_setup.specs.StrokeGroup.{is_lead}
use Rattle.handling_cost.specs.StepCost.{attitude_at, change, change_cost}
use Rattle.set_facts.specs.Facts.{AreLeads}
use Rattle.cert_check.specs.declared.proved_costs.ProvedCosts.{ProvedCosts}
use Rattle.cert_check.specs.declared.closing_costs.ClosingCosts.{ClosingCosts}

-- a set of the job and its leads; no cost is above that of no way on
pub record AreCostsOf (job : JobData) (proved : ProvedCosts) : Type 0 where
  pub mask : proved.mask.0 < 2 ^ bend_count job
  pub leads : AreLeads job proved.mask proved.leads
  pub small : (place : ℕ) → place < 192 → cost_at proved.costs place ≤ 2000000000

-- no lane is above the cost of no way on and of a change of attitude
abbrev pub IsSmall : List ℕ → Type 0
IsSmall lanes = (stage : ℕ) → stage < 8 → slice_index lanes stage ≤ 2001000000

-- what the change from an attitude to that of a stroke costs
abbrev pub turn_cost : JobData → ProvedCosts → ℕ → ℕ → Back → ℕ → ℕ
turn_cost job proved attitude bend back stage =
    change_cost job.setup.cost (change attitude (attitude_at job proved.mask (record {
      bend = bend;
      back = back;
      stage = stage;
    })))

-- at each stage the action of a bend with this side at the back is noted, or costs at least the lane
-- by the change of attitude and by what is proved behind it
abbrev pub ClosesSide : JobData → ProvedCosts → ActionSet → ℕ → ℕ → Back → List ℕ → Type 0
ClosesSide job proved noted attitude bend back lanes =
    (stage : ℕ) → stage < stage_count job
    → IsTrue (has_place noted (8 * side_of bend back + stage))
    ⊎ (slice_index lanes stage ≤ cost_at proved.costs (8 * side_of bend back + stage)
    + turn_cost job proved attitude bend back stage)

-- so it is with either side
abbrev pub ClosesBend : JobData → ProvedCosts → ActionSet → ℕ → ℕ → List ℕ → Type 0
ClosesBend job proved noted attitude bend lanes =
    (back : Back) → ClosesSide job proved noted attitude bend back lanes

-- so it is with each lead below a bend
abbrev pub ClosesBelow : JobData → ProvedCosts → ActionSet → ℕ → ℕ → List ℕ → Type 0
ClosesBelow job proved noted attitude bend lanes =
    (lead : ℕ) → 1 ≤ lead → lead < bend → IsTrue (is_lead job proved.mask lead)
    → ClosesBend job proved noted attitude lead lanes

-- so it is with each lead
pub record IsClosing (job : JobData) (proved : ProvedCosts) (noted : ActionSet) (attitude : ℕ)
    (lanes : List ℕ) : Type 0 where
  pub each : ClosesBelow job proved noted attitude (bend_count job + 1) lanes
  pub small : IsSmall lanes

-- what was found last closes the actions of its rows
abbrev pub AreFound : JobData → ProvedCosts → ClosingCosts → Type 0
AreFound job proved closing = IfSome closing.found (λ found.
    IsClosing job proved found.rows.noted found.rows.attitude found.costs.0)
