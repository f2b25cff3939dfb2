-- What an action is at a key, what it costs, and where it leads. Costs are in tenths of a second.
use Rattle.std.specs.Prelude.{◌≡◌, ℕ, ◌+◌, ◌-◌, ◌*◌, ◌^◌, ◌<◌, ◌≤◌, ◌==◌, pos, negsuc, Bool, true}
use Rattle.std.specs.Prelude.{not, IsTrue, length, if◌then◌else◌}
use Rattle.std.specs.Ordering.{int_eq}
use Rattle.brake_base.specs.declared.mask.Mask.{Mask}
use Rattle.brake_base.specs.declared.stroke.Key.{Key}
use Rattle.brake_base.specs.declared.stroke.Action.{Action}
use Rattle.brake_base.specs.Actions.{IsActionAmong}
use Rattle.brake_base.specs.Masks.{has, union}
use Rattle.brake_base.specs.Turns.{Matrix, turn_of, multiply, transpose}
use Rattle.machine_file.specs.declared.machine.Costs.{Costs}
use Rattle.handling_cost.specs.declared.attitudes.Change.{Change}
use Rattle.handling_cost.specs.declared.attitudes.Change.TheVariants.{Same, Quarter, Half, Flip}
use Rattle.handling_cost.specs.declared.attitudes.Change.TheVariants.{Roll}
use Rattle.fold_boxes.specs.Groups.{members}
use Rattle.job_setup.specs.Setup.{JobData, shape_of, bend_count, stage_count}
use Rattle.job_setup.specs.StrokeGroup.{group_of, is_lead}
use Rattle.fold_boxes.specs.Pose.{attitude_of}

-- the numbers of a key are in range
pub record IsKeyOf (job : JobData) (key : Key) : Type 0 where
  pub mask : key.mask.0 < 2 ^ bend_count job
  pub attitude : key.attitude < 24
  pub stage : key.stage < stage_count job

-- an action of the job: its bend and its stage are the job's
abbrev pub IsActionOf : JobData → Action → Type 0
IsActionOf job action = IsActionAmong (bend_count job) (stage_count job) action

-- an action on such a bend, at any stage
pub record IsActionAt (job : JobData) (key : Key) (action : Action) : Type 0 where
  pub first : 1 ≤ action.bend
  pub last : action.bend ≤ bend_count job
  pub stage : action.stage < stage_count job
  pub lead : IsTrue (is_lead job key.mask action.bend)

-- every bend is folded
unfoldable pub IsFull : JobData → Key → Type 0
IsFull job key = (b : ℕ) → 1 ≤ b → b ≤ bend_count job → has key.mask b ≡ true

-- the number of bends left: those that aren't folded
unfoldable pub left : JobData → Key → ℕ
left job key = length (members (shape_of job) (λ b. not (has key.mask b)))

-- the number of the attitude in which the part is held for an action where the bends of the mask
-- are folded
unfoldable pub attitude_at : JobData → Mask → Action → ℕ
attitude_at job mask action = attitude_of (shape_of job) mask action.bend action.back

-- the key to which an action leads: its group is folded, and its attitude and stage are the last
unfoldable pub key_after : JobData → Key → Action → Key
key_after job key action = record {
  mask = union key.mask (group_of job key.mask action.bend);
  attitude = attitude_at job key.mask action;
  stage = action.stage;
}

-- the turn from one attitude to another: the other after the inverse of the one
abbrev pub change : ℕ → ℕ → Matrix
change from to = multiply (turn_of to) (transpose (turn_of from))

-- What becomes of the part as its attitude changes. Where what points up stays up it is held as
-- before, or makes a half or a quarter turn, as the x axis stays, points back or points aside;
-- where it comes to point down the part is flipped; else it is rolled.
abbrev pub kind_of_change : Matrix → Change
kind_of_change m =
    if int_eq m.z.z (pos 1)
    then (if int_eq m.x.x (pos 1) then Same else if int_eq m.x.x (negsuc 0) then Half else Quarter)
    else if int_eq m.z.z (negsuc 0) then Flip
    else Roll

-- what a change of a kind costs
abbrev pub price_of : Costs → Change → ℕ
price_of cost Same = 0
price_of cost Quarter = cost.quarter
price_of cost Half = cost.half
price_of cost Flip = cost.flip
price_of cost Roll = cost.roll

-- what a change of attitude costs
abbrev pub change_cost : Costs → Matrix → ℕ
change_cost cost m = price_of cost (kind_of_change m)

-- how far two stages are apart
abbrev pub distance : ℕ → ℕ → ℕ
distance a b = (a - b) + (b - a)

-- what the step from one stage to another costs; nothing where no bend is folded
unfoldable pub stage_cost : JobData → Mask → ℕ → ℕ → ℕ
stage_cost job mask from to = if mask.0 == 0 then 0 else job.setup.cost.stage * distance from to

-- what a stroke in an attitude, at a stage, costs from a key
unfoldable pub cost_to : JobData → Key → ℕ → ℕ → ℕ
cost_to job key attitude stage =
    job.setup.cost.stroke + change_cost job.setup.cost (change key.attitude attitude)
    + stage_cost job key.mask key.stage stage

-- what an action costs from a key
abbrev pub cost_of : JobData → Key → Action → ℕ
cost_of job key action = cost_to job key (attitude_at job key.mask action) action.stage
