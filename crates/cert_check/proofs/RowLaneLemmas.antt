-- Rows that are met by lanes.
use Rattle.std.proofs.Common.{◌≡◌, inl, inr, ℕ, ◌+◌, ◌*◌, ◌<◌, ◌≤◌, IsTrue, false, List, arith, refl, sym, ◌∙◌, ap, subst}
use Rattle.std.specs.Prelude.{nat_lt, ◌⊎◌}
use Rattle.std.proofs.lemmas.Bool.Decides.{eqb_tells}
use Rattle.brake_base.specs.declared.stroke.Key.{Key}
use Rattle.brake_base.specs.declared.stroke.Back.{Back}
use Rattle.brake_base.specs.declared.stroke.Action.{Action}
use Rattle.brake_base.specs.declared.stroke.Worth.{Worth}
use Rattle.brake_base.specs.declared.stroke.Worth.TheVariants.{Cost, Blocked}
use Rattle.stage_lanes.specs.declared.actions.ActionSet.{ActionSet}
use Rattle.brake_base.specs.Actions.{number_of_action}
use Rattle.brake_base.specs.Worths.{IsAtMost, plus}
use Rattle.stage_lanes.specs.ActionSets.{side_of, has, has_place, place_of}
use Rattle.job_setup.specs.Setup.{JobData, bend_count, stage_count}
use Rattle.job_setup.specs.ValidJob.{IsJob}
use Rattle.handling_cost.specs.StepCost.{attitude_at, key_after, change, change_cost, stage_cost, cost_to, cost_of}
use Rattle.handling_cost.specs.Good.{Proves}
use Rattle.handling_cost.proofs.Actions.{few_bends}
use Rattle.handling_cost.proofs.Small.{cost_to_small}
use Rattle.cert_lines.specs.declared.row_head.RowHead.{RowHead}
use Rattle.cert_lines.specs.Lines.{action_at}
use Rattle.cert_lines.specs.Lines.{IsWorth}
use Rattle.plan_lines.specs.LinesFit.{IsRow}
use Rattle.plan_cert.specs.GoodCert.{HaveRow}
use Rattle.plan_lines.proofs.ActionNumbers.{number_is, number_below, action_of_number}
use Rattle.plan_lines.proofs.Actions.{few_actions}
use Rattle.cert_check.specs.Rows.{ClosesAt, IsMet, AreMet}
use Rattle.cert_check.specs.ProvedCosts.{worth_cost, IsProvedCost, key_behind}
use Rattle.cert_check.specs.RowLanes.{AreBendsMet}

-- what is proved behind a step is at least the worth where the costs are
pub closes : (worth next : Worth) (cost : ℕ) → IsWorth next → cost ≤ 8000000 → worth_cost worth ≤ cost + worth_cost next → IsAtMost worth (plus cost next)
closes (Cost m) (Cost n) cost ranged small enough = enough
closes (Cost m) Blocked cost ranged small enough = tt
closes Blocked Blocked cost ranged small enough = tt
closes Blocked (Cost n) cost ranged small enough = absurd (omega (arith, ranged, small, enough))

-- the key behind a stroke doesn't depend on the attitude and the stage before it
pub behind_is : (job : JobData) (key : Key) (bend : ℕ) (back : Back) (stage : ℕ) → key_behind job key.mask bend back stage ≡ key_after job key (record { bend = bend; back = back; stage = stage })
unfolding key_after
behind_is job key bend back stage = refl

-- the cost of a stroke by its parts
pub cost_parts : (job : JobData) (key : Key) (action : Action)
    → cost_of job key action ≡ (job.setup.cost.stroke + stage_cost job key.mask key.stage action.stage) + change_cost job.setup.cost (change key.attitude (attitude_at job key.mask action))
unfolding cost_to
cost_parts job key action = omega arith

pub not_less : (m n : ℕ) → nat_lt m n ≡ false → n ≤ m
not_less m n is = grind arith

module _ (job : JobData) (is_job : IsJob job) (rows : List RowHead) (head : RowHead) (row : IsRow job head) (bend : ℕ) (back : Back) (stage : ℕ) (first : 1 ≤ bend) (last : bend ≤ bend_count job) (low : stage < stage_count job) where
  abbrev own : Action
  own = record { bend = bend; back = back; stage = stage }

  -- an action is closed where the sum of its cost and what is proved behind it isn't below the worth
  closed : (cost proved sum : ℕ) → IsProvedCost job rows (key_behind job head.key.mask bend back stage) proved → cost ≡ cost_of job head.key own → sum ≡ proved + cost → worth_cost head.worth ≤ sum
      → ClosesAt job rows head own
  closed cost proved sum is cost_is sum_is enough =
      let small = cost_to_small job is_job head.key (attitude_at job head.key.mask own) stage
      (let s = row.stage in let few = is_job.setup.stages.few_stages in omega (arith, s, few))
      (let few = is_job.setup.stages.few_stages in omega (arith, low, few)) in
      let value = is.value in (
        is.worth,
        subst (λ (key : Key). Proves job (HaveRow rows) key is.worth) (behind_is job head.key bend back stage) is.proved,
        closes head.worth is.worth (cost_of job head.key own) is.ranged small (omega (arith, value, cost_is, sum_is, enough)),
      )

  number_is_of : side_of bend back * stage_count job + stage ≡ number_of_action (stage_count job) own
  unfolding number_of_action
  number_is_of = refl

  own_at : own ≡ action_at (stage_count job) (side_of bend back * stage_count job + stage)
  own_at =
      let below = few_actions (number_of_action (stage_count job) own) (bend_count job) (stage_count job) (few_bends job is_job) (number_below (bend_count job) (stage_count job) own first last low) in
      action_of_number (stage_count job) own
      (record { first = first; last = let few = few_bends job is_job in omega (arith, last, few); stage = low }) below
      ∙ ap (action_at (stage_count job)) (sym number_is_of)

  place_is : place_of own ≡ 8 * side_of bend back + stage
  unfolding number_of_action
  place_is = omega arith

  -- an action is met where it is noted, or where what closes it isn't below the worth
  pub lane_met : (noted : ActionSet) (onward turn proved least : ℕ)
      → IsProvedCost job rows (key_behind job head.key.mask bend back stage) proved
      → onward ≡ job.setup.cost.stroke + stage_cost job head.key.mask head.key.stage stage
      → turn ≡ change_cost job.setup.cost (change head.key.attitude (attitude_at job head.key.mask own))
      → IsTrue (has_place noted (8 * side_of bend back + stage)) ⊎ (least ≤ proved + turn)
      → worth_cost head.worth ≤ least + onward
      → IsMet job rows head noted (side_of bend back * stage_count job + stage)
  lane_met noted onward turn proved least is onward_is turn_is (inl known) enough =
      inl (ap (λ (a : Action). has noted a) (sym own_at) ∙ (ap (has_place noted) place_is ∙ known))
  lane_met noted onward turn proved least is onward_is turn_is (inr most) enough =
      let parts = cost_parts job head.key own in
      inr (subst (ClosesAt job rows head) own_at
      (closed (onward + turn) proved (proved + (onward + turn)) is (omega (arith, parts, onward_is, turn_is)) refl (omega (arith, most, enough))))

side_number : (stages : ℕ) (a : Action) → side_of a.bend a.back * stages + a.stage ≡ number_of_action stages a
unfolding number_of_action
side_number stages a = refl

-- where all bends are met each action of the row is
pub all_met : (job : JobData) (rows : List RowHead) (head : RowHead) (noted : ActionSet) → AreBendsMet job rows head noted (bend_count job + 1) → AreMet job rows head noted (2 * bend_count job * stage_count job)
all_met job rows head noted met number low tried =
    let stages = stage_count job in
    let a : Action = action_at stages number in
    let at = tried.1 in
    subst (IsMet job rows head noted) (side_number stages a ∙ number_is stages number)
    (met a.bend at.first (let last = at.last in omega (arith, last)) at.lead a.back a.stage at.stage)

-- what holds of each number below one and of it
pub each_on : (P : ℕ → Type 0) (n : ℕ) → ((m : ℕ) → m < n → P m) → P n → (m : ℕ) → m < n + 1 → P m
each_on P n below here m less = elim (eqb_tells m n) [
  | inl same ↦ subst P (sym same.1) here
  | inr other ↦ below m (let no = other.1 in omega (arith, less, no))
]
