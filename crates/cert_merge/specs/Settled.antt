-- The states of a range of sets of bends, settled over a base. Worths are in tenths of a second.
-- An action leads to a key of a greater mask, so that what is proved of the next keys comes from
-- the base and from settled rows of greater masks: the masks are settled downwards.
use Rattle.std.specs.Prelude.{◌≡◌, ◌⊎◌, ℕ, ◌+◌, ◌*◌, ◌^◌, ◌<◌, ◌≤◌, min, Option, Some, None}
use Rattle.brake_base.specs.declared.mask.Mask.{Mask}
use Rattle.brake_base.specs.declared.stroke.Key.{Key}
use Rattle.brake_base.specs.declared.stroke.Action.{Action}
use Rattle.brake_base.specs.declared.stroke.Worth.{Worth}
use Rattle.brake_base.specs.declared.stroke.Worth.TheVariants.{Cost, Blocked}
use Rattle.brake_base.specs.declared.reason.Reason.{Reason}
use Rattle.brake_base.specs.Worths.{IsAtMost, plus}
use Rattle.job_setup.specs.Setup.{JobData, bend_count, stage_count}
use Rattle.job_setup.specs.StrokeGroup.{group_of}
use Rattle.stroke_table.specs.Strokes.{IsFirstAt}
use Rattle.handling_cost.specs.StepCost.{IsKeyOf, IsActionAt, cost_of, key_after}
use Rattle.handling_cost.specs.Plan.{start}
use Rattle.handling_cost.specs.Claim.{IsTrueClaim}
use Rattle.cert_lines.specs.Lines.{action_at}
use Rattle.cert_merge.specs.Entries.{Settled}
use Rattle.cert_merge.specs.Merged.{settled_at, IsMerged}
use Rattle.cert_merge.specs.Table.{TableData, IsTable, IsClosedTable}
use Rattle.cert_merge.specs.TableTexts.{empty_table}
use Rattle.cert_merge.specs.TableChecks.{proved_by}

-- the number is one of an action at the key
abbrev pub IsNumberAt : JobData → Key → ℕ → Type 0
IsNumberAt job key number =
    (number < 2 * bend_count job * stage_count job)
    × IsActionAt job key (action_at (stage_count job) number)

-- the first reason against the action in the order of reasons, of which NoGauge is the last; none
-- exactly where no reason holds
abbrev pub IsFirstFor : JobData → Mask → Action → Option Reason → Type 0
IsFirstFor job mask action noted =
    IsFirstAt job mask (group_of job mask action.bend) action.back action.stage noted

-- of the action of a number at the key the first reason is noted, and nothing of any other number
pub record IsFirstNoted (job : JobData) (key : Key) (number : ℕ) (noted : Option Reason)
    : Type 0 where
  pub here :
      IsNumberAt job key number
      → IsFirstFor job key.mask (action_at (stage_count job) number) noted
  pub only : (reason : Reason) → noted ≡ Some reason → IsNumberAt job key number

-- so of each
abbrev pub AreFirstNoted : JobData → Key → (ℕ → Option Reason) → Type 0
AreFirstNoted job key reasons = (number : ℕ) → IsFirstNoted job key number (reasons number)

-- the step cost of an action and then what is proved of the next key
abbrev pub worth_by : JobData → (Key → Worth) → Key → Action → Worth
worth_by job proved key action = plus (cost_of job key action) (proved (key_after job key action))

-- what an action without a note comes to
abbrev pub IsOpen : JobData → (Key → Worth) → Key → (ℕ → Option Reason) → Worth → Type 0
IsOpen job proved key reasons worth =
    (number : ℕ) × IsNumberAt job key number × (reasons number ≡ None)
    × (worth ≡ worth_by job proved key (action_at (stage_count job) number))

-- the least of some worths, Blocked where there is none
pub record IsLeastWorth (Among : Worth → Type 0) (worth : Worth) : Type 0 where
  pub one : (worth ≡ Blocked) ⊎ Among worth
  pub least : (other : Worth) → Among other → IsAtMost worth other

-- a worth that a row may have: a greater number comes to the greatest that it may have
abbrev pub capped : Worth → Worth
capped (Cost cost) = Cost (min cost 1000000000)
capped Blocked = Blocked

-- what is settled of a key by what is proved of others: each action is noted with its first reason,
-- and the worth is the least that an action without a note comes to
pub record IsSettledBy (job : JobData) (proved : Key → Worth) (key : Key) (said : Settled)
    : Type 0 where
  pub noted : AreFirstNoted job key said.reasons
  pub least : Worth
  pub is_least : IsLeastWorth (IsOpen job proved key said.reasons) least
  pub worth : said.worth ≡ capped least

-- a key whose mask is one of the range
pub record IsInRange (job : JobData) (low high : ℕ) (key : Key) : Type 0 where
  pub of_job : IsKeyOf job key
  pub first : low ≤ key.mask.0
  pub last : key.mask.0 ≤ high

-- a table of the keys of the range and of no other, each settled by what is proved of others
pub record IsNewTable (job : JobData) (proved : Key → Worth) (low high : ℕ) (new : TableData)
    : Type 0 where
  pub form : IsTable job new
  pub each :
      (key : Key) → IsInRange job low high key
      → (said : Settled) × (settled_at new key ≡ Some said) × IsSettledBy job proved key said
  pub only :
      (key : Key) (said : Settled) → settled_at new key ≡ Some said → IsInRange job low high key

-- settled(job, base, low, high): the base merged with a row for each key of the range, settled by
-- what the rows of both prove of keys of greater masks
pub record IsSettled (job : JobData) (base : TableData) (low high : ℕ) (t : TableData)
    : Type 0 where
  pub new : TableData
  pub new_rows : IsNewTable job (proved_by job t.rows) low high new
  pub merged : IsMerged base new t

-- no other table is settled so
abbrev pub IsOneSettled : JobData → TableData → ℕ → ℕ → TableData → Type 0
IsOneSettled job base low high t =
    (other : TableData) → IsTable job other → IsSettled job base low high other → other ≡ t

-- the range is that of all keys at which a bend is unfolded, and nothing was settled before
pub record IsWhole (job : JobData) (base : TableData) (low high : ℕ) : Type 0 where
  pub empty : base ≡ empty_table
  pub first : low ≡ 0
  pub last : high + 2 ≡ 2 ^ bend_count job

-- what is settled over a closed base is closed
abbrev pub StaysClosed : JobData → TableData → TableData → Type 0
StaysClosed job base t = IsClosedTable job base → IsClosedTable job t

-- of all keys, over an empty base, it proves the least cost of a plan, or that there is none
abbrev pub ProvesLeast : JobData → TableData → ℕ → ℕ → TableData → Type 0
ProvesLeast job base low high t =
    IsWhole job base low high → IsTrueClaim job (proved_by job t.rows start)
