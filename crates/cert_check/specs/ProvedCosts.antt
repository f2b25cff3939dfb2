-- What is proved of keys, a lane for each stage. Costs are in tenths of a second.
use Rattle.std.specs.Prelude.{◌≡◌, ℕ, ◌+◌, ◌*◌, ◌/◌, ◌^◌, ◌<◌, ◌≤◌, ◌≢◌, IsTrue, List, slice_index}
use Rattle.brake_base.specs.declared.mask.Mask.{Mask}
use Rattle.brake_base.specs.declared.stroke.Key.{Key}
use Rattle.brake_base.specs.declared.stroke.Back.{Back}
use Rattle.brake_base.specs.declared.stroke.Worth.{Worth}
use Rattle.brake_base.specs.declared.stroke.Worth.TheVariants.{Cost, Blocked}
use Rattle.stage_lanes.specs.ActionSets.{side_of}
use Rattle.action_lanes.specs.declared.costs.ActionCosts.{ActionCosts}
use Rattle.action_lanes.specs.Costs.{cost_at}
use Rattle.job_setup.specs.Setup.{JobData, bend_count, stage_count}
use Rattle.job_setup.specs.StrokeGroup.{is_lead}
use Rattle.handling_cost.specs.StepCost.{key_after}
use Rattle.handling_cost.specs.Good.{Proves}
use Rattle.cert_lines.specs.declared.row_head.RowHead.{RowHead}
use Rattle.cert_lines.specs.Lines.{IsWorth}
use Rattle.plan_cert.specs.GoodCert.{HaveRow}
use Rattle.set_facts.specs.Facts.{AreLeads}
use Rattle.set_facts.specs.LaneFacts.{key_at}
use Rattle.cert_check.specs.declared.proved_costs.ProvedCosts.{ProvedCosts}

-- a worth as a cost; that of no way on is above every cost of a step and what is proved behind it
abbrev pub worth_cost : Worth → ℕ
worth_cost (Cost cost) = cost
worth_cost Blocked = 2000000000

-- a worth that stands for the key is this cost
pub record IsProvedCost (job : JobData) (rows : List RowHead) (key : Key) (cost : ℕ) : Type 0 where
  pub worth : Worth
  pub proved : Proves job (HaveRow rows) key worth
  pub ranged : IsWorth worth
  pub value : cost ≡ worth_cost worth

-- what is proved of the keys of a set in an attitude at the stages below this one; no lane is above
-- the cost of no way on
pub record AreProvedLanes (job : JobData) (rows : List RowHead) (mask : Mask)
    (attitude stages : ℕ) (lanes : List ℕ) : Type 0 where
  pub each : (stage : ℕ) → stage < stages
      → IsProvedCost job rows (record { mask = mask; attitude = attitude; stage = stage })
      (slice_index lanes stage)
  pub small : (stage : ℕ) → stage < 8 → slice_index lanes stage ≤ 2000000000

-- the key behind a stroke where the bends of the mask are folded
abbrev pub key_behind : JobData → Mask → ℕ → Back → ℕ → Key
key_behind job mask bend back stage =
    key_after job (key_at mask 0) (record { bend = bend; back = back; stage = stage })

-- what is proved of the keys behind the strokes of a bend stands at its actions' places
abbrev pub HasBendCosts : JobData → List RowHead → Mask → ActionCosts → ℕ → Type 0
HasBendCosts job rows mask costs bend =
    (back : Back) (stage : ℕ) → stage < stage_count job
    → IsProvedCost job rows (key_behind job mask bend back stage)
    (cost_at costs (8 * side_of bend back + stage))

-- so it does, and elsewhere stands what there was
pub record IsBendPut (job : JobData) (rows : List RowHead) (mask : Mask) (bend : ℕ)
    (before after : ActionCosts) : Type 0 where
  pub put : HasBendCosts job rows mask after bend
  pub others :
      (place : ℕ) → place < 192 → place / 16 + 1 ≢ bend
      → cost_at after place ≡ cost_at before place
  pub small :
      ((place : ℕ) → place < 192 → cost_at before place ≤ 2000000000)
      → (place : ℕ) → place < 192 → cost_at after place ≤ 2000000000

-- what is proved of the keys behind the strokes of each lead below a bend stands at its actions'
-- places; no cost is above that of no way on
pub record AreProvedBelow (job : JobData) (rows : List RowHead) (mask : Mask) (bend : ℕ)
    (costs : ActionCosts) : Type 0 where
  pub each :
      (lead : ℕ) → 1 ≤ lead → lead < bend → IsTrue (is_lead job mask lead)
      → HasBendCosts job rows mask costs lead
  pub small : (place : ℕ) → place < 192 → cost_at costs place ≤ 2000000000

-- a set of the job, its leads, and what is proved of the keys behind each of their strokes
pub record AreProvedOf (job : JobData) (rows : List RowHead) (proved : ProvedCosts) : Type 0 where
  pub mask : proved.mask.0 < 2 ^ bend_count job
  pub leads : AreLeads job proved.mask proved.leads
  pub costs : AreProvedBelow job rows proved.mask (bend_count job + 1) proved.costs
