-- How large costs can be: in tenths of a second, by the ranges of a job.
use Rattle.std.proofs.Common.{◌≡◌, ℕ, ◌+◌, ◌*◌, ◌==◌, ◌<◌, ◌≤◌, Bool, true, false, cond, List, [], ◌∷◌, length, arith, refl}
use Rattle.std.proofs.lemmas.Nat.{mul-le}
use Rattle.brake_base.specs.declared.stroke.Key.{Key}
use Rattle.brake_base.specs.declared.stroke.Action.{Action}
use Rattle.brake_base.specs.declared.stroke.Step.{Step}
use Rattle.brake_base.specs.declared.mask.Mask.{Mask}
use Rattle.brake_base.specs.Masks.{has}
use Rattle.brake_base.specs.Turns.{Matrix}
use Rattle.machine_file.specs.declared.machine.Costs.{Costs}
use Rattle.machine_file.specs.Machine.{IsCosts}
use Rattle.job_setup.specs.Setup.{JobData, bend_count, stage_count}
use Rattle.job_setup.specs.ValidJob.{IsJob}
use Rattle.job_setup.specs.StrokeGroup.{in_group, is_lead}
use Rattle.job_setup.specs.StageOf.{stage_of}
use Rattle.job_setup.specs.Reasons.{meets}
use Rattle.handling_cost.specs.declared.attitudes.Change.{Change}
use Rattle.handling_cost.specs.declared.attitudes.Change.TheVariants.{Same, Quarter, Half, Flip, Roll}
use Rattle.handling_cost.specs.StepCost.{IsKeyOf, IsActionAt, left, key_after, attitude_at, change, kind_of_change, price_of, change_cost, distance, stage_cost, cost_to, cost_of}
use Rattle.handling_cost.specs.Plan.{IsRest, total}
use Rattle.handling_cost.specs.Bound.{leads_left, meeting_stages, nearest, farthest, bound_of}
use Rattle.handling_cost.proofs.Counts.{with_greatest}
use Rattle.handling_cost.proofs.Ways.{nearest_small}
use Rattle.handling_cost.proofs.Actions.{few_bends, few_leads, fewer_left}
use Rattle.handling_cost.proofs.Keys.{next_in_range}

pick_small : (t : Bool) (a b most : ℕ) → a ≤ most → b ≤ most → cond t a b ≤ most
pick_small true a b most first second = first
pick_small false a b most first second = second

-- the prices of a job in plain numbers
pub record ArePrices (cost : Costs) : Type 0 where
  pub stroke : cost.stroke ≤ 1000000
  pub quarter : cost.quarter ≤ 1000000
  pub half : cost.half ≤ 1000000
  pub flip : cost.flip ≤ 1000000
  pub roll : cost.roll ≤ 1000000
  pub stage : cost.stage ≤ 1000000

pub prices : (cost : Costs) → IsCosts cost → ArePrices cost
prices cost is = record { stroke = is.stroke; quarter = is.quarter; half = is.half; flip = is.flip; roll = is.roll; stage = is.stage }

price_small : (cost : Costs) → IsCosts cost → (change : Change) → price_of cost change ≤ 1000000
price_small cost is Same = omega arith
price_small cost is Quarter = (prices cost is).quarter
price_small cost is Half = (prices cost is).half
price_small cost is Flip = (prices cost is).flip
price_small cost is Roll = (prices cost is).roll

pub change_small : (cost : Costs) → IsCosts cost → (m : Matrix) → change_cost cost m ≤ 1000000
change_small cost is m = price_small cost is (kind_of_change m)

-- the way is paid where a bend is folded
pub no_way : (job : JobData) (mask : Mask) (from to : ℕ) → (mask.0 == 0) ≡ true → 0 ≡ stage_cost job mask from to
unfolding stage_cost
no_way job mask from to empty = rw empty refl

pub some_way : (job : JobData) (mask : Mask) (from to : ℕ) → (mask.0 == 0) ≡ false → stage_cost job mask from to ≡ job.setup.cost.stage * distance from to
unfolding stage_cost
some_way job mask from to some = rw some refl

module _ (job : JobData) (is_job : IsJob job) where
  pub stage_cost_small : (mask : Mask) (from to : ℕ) → from ≤ 6 → to ≤ 6 → stage_cost job mask from to ≤ 6000000
  unfolding stage_cost
  stage_cost_small mask from to low high =
      pick_small (mask.0 == 0) 0 (job.setup.cost.stage * distance from to) 6000000 (omega arith)
      (mul-le job.setup.cost.stage (distance from to) 1000000 6 (prices job.setup.cost is_job.setup.rules.cost).stage (omega arith))

  pub cost_to_small : (key : Key) (attitude stage : ℕ) → key.stage ≤ 6 → stage ≤ 6 → cost_to job key attitude stage ≤ 8000000
  unfolding cost_to
  cost_to_small key attitude stage low high =
      let turn = change_small job.setup.cost is_job.setup.rules.cost (change key.attitude attitude) in
      let way = stage_cost_small key.mask key.stage stage low high in
      sum3 job.setup.cost.stroke (change_cost job.setup.cost (change key.attitude attitude)) (stage_cost job key.mask key.stage stage) (prices job.setup.cost is_job.setup.rules.cost).stroke turn way
    where
      sum3 : (a b c : ℕ) → a ≤ 1000000 → b ≤ 1000000 → c ≤ 6000000 → a + b + c ≤ 8000000
      sum3 a b c p q r = omega arith

  -- no step costs more than this
  pub cost_small : (key : Key) (action : Action) → IsKeyOf job key → IsActionAt job key action → cost_of job key action ≤ 8000000
  cost_small key action in_range at =
      cost_to_small key (attitude_at job key.mask action) action.stage (omega (arith, in_range.stage, is_job.setup.stages.few_stages)) (omega (arith, at.stage, is_job.setup.stages.few_stages))

  -- no rest costs more than this for each bend that is left
  pub total_small : (key : Key) (steps : List Step) → IsKeyOf job key → IsRest job key steps → total job key steps ≤ left job key * 8000000
  total_small key [] in_range rest = omega arith
  total_small key (step ∷ steps) in_range rest =
      let at = rest.0.action in
      let less = fewer_left job (few_bends job is_job) key step.action at in
      let first = cost_small key step.action in_range at in
      let others = total_small (key_after job key step.action) steps (next_in_range job is_job key step.action in_range at) rest.1 in
      omega (arith, less, first, others)

  pub farthest_small : (mask : Mask) (from : ℕ) → from < stage_count job → farthest job mask from ≤ 6
  unfolding farthest
  farthest_small mask from within =
      let f = λ (b : ℕ). nearest from (meeting_stages job mask b) in
      let near : (b : ℕ) → f b ≤ 6 = λ b.
      let most = nearest_small (λ stage. meets job (in_group job (has mask) b) (stage_of job stage)) from (stage_count job) 0 (stage_count job) within (omega arith) in
      omega (arith, most, is_job.setup.stages.few_stages) in
      let all = with_greatest (is_lead job mask) f 0 1 6 (omega arith) 1 (bend_count job) (λ b first last lead. let one = near b in omega (arith, one)) in
      omega (arith, all)

  pub bound_small : (key : Key) → IsKeyOf job key → bound_of job key ≤ 18000000
  unfolding bound_of
  bound_small key in_range =
      let strokes = mul-le job.setup.cost.stroke (length (leads_left job key.mask)) 1000000 12 (prices job.setup.cost is_job.setup.rules.cost).stroke (few_leads job is_job key.mask) in
      let way = pick_small (key.mask.0 == 0) 0 (job.setup.cost.stage * farthest job key.mask key.stage) 6000000 (omega arith)
      (mul-le job.setup.cost.stage (farthest job key.mask key.stage) 1000000 6 (prices job.setup.cost is_job.setup.rules.cost).stage (farthest_small key.mask key.stage in_range.stage)) in
      omega (arith, strokes, way)
