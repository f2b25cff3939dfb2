-- Rows of which each action is met by what is known of their set. Costs are in tenths of
-- a second.
use Rattle.std.specs.Prelude.{◌≡◌, ℕ, ◌+◌, ◌*◌, ◌<◌, ◌≤◌, IsTrue, List, slice_index}
use Rattle.brake_base.specs.declared.stroke.Key.{Key}
use Rattle.brake_base.specs.declared.stroke.Back.{Back}
use Rattle.stage_lanes.specs.declared.actions.ActionSet.{ActionSet}
use Rattle.stage_lanes.specs.ActionSets.{side_of}
use Rattle.job_setup.specs.Setup.{JobData, stage_count}
use Rattle.job_setup.specs.StrokeGroup.{is_lead}
use Rattle.handling_cost.specs.StepCost.{stage_cost}
use Rattle.cert_lines.specs.declared.row_head.RowHead.{RowHead}
use Rattle.cert_check.specs.declared.rows.CheckedSet.{CheckedSet}
use Rattle.cert_check.specs.Rows.{IsMet}
use Rattle.cert_check.specs.SetActions.{AreActionsOf}
use Rattle.cert_check.specs.ProvedCosts.{AreProvedOf}
use Rattle.cert_check.specs.ClosingCosts.{AreFound}

-- what belongs to the actions of a set, and what is proved of the keys behind a set and closes the
-- actions of its rows
pub record IsCheckedSet (job : JobData) (rows : List RowHead) (set : CheckedSet) : Type 0 where
  pub actions : AreActionsOf job set.actions
  pub proved : AreProvedOf job rows set.proved
  pub closing : AreFound job set.proved set.closing

-- what a stroke at each stage costs from a key but for the change of attitude
pub record IsOnward (job : JobData) (key : Key) (lanes : List ℕ) : Type 0 where
  pub each :
      (stage : ℕ) → stage < stage_count job
      → slice_index lanes stage
      ≡ job.setup.cost.stroke + stage_cost job key.mask key.stage stage
  pub small : (stage : ℕ) → stage < 8 → slice_index lanes stage ≤ 600000000

-- the actions of a bend with this side at the back are met
abbrev pub IsSideMet : JobData → List RowHead → RowHead → ActionSet → ℕ → Back → Type 0
IsSideMet job rows head noted bend back =
    (stage : ℕ) → stage < stage_count job
    → IsMet job rows head noted (side_of bend back * stage_count job + stage)

-- with either side
abbrev pub IsBendMet : JobData → List RowHead → RowHead → ActionSet → ℕ → Type 0
IsBendMet job rows head noted bend =
    (back : Back) → IsSideMet job rows head noted bend back

-- the actions of each lead below a bend are met
abbrev pub AreBendsMet : JobData → List RowHead → RowHead → ActionSet → ℕ → Type 0
AreBendsMet job rows head noted bend =
    (lead : ℕ) → 1 ≤ lead → lead < bend → IsTrue (is_lead job head.key.mask lead)
    → IsBendMet job rows head noted lead
