-- How the keys of a range are settled, set by set from the highest mask downwards. Worths are in
-- tenths of a second.
use Rattle.std.specs.Prelude.{◌≡◌, ℕ, ◌+◌, ◌-◌, ◌*◌, ◌/◌, ◌%◌, ◌<◌, ◌≤◌, nat_le, List, length}
use Rattle.std.specs.Prelude.{slice_get}
use Rattle.std.specs.Prelude.{slice_index_or, Option, Some, None, option_map, if◌then◌else◌}
use Rattle.brake_base.specs.declared.mask.Mask.{Mask}
use Rattle.brake_base.specs.declared.stroke.Key.{Key}
use Rattle.brake_base.specs.declared.stroke.Worth.{Worth}
use Rattle.brake_base.specs.declared.stroke.Worth.TheVariants.{Blocked}
use Rattle.brake_base.specs.declared.reason.Reason.{Reason}
use Rattle.brake_base.specs.Worths.{plus, greater}
use Rattle.job_setup.specs.Setup.{JobData, bend_count, stage_count}
use Rattle.handling_cost.specs.StepCost.{IsKeyOf, key_after, cost_to}
use Rattle.cert_lines.specs.declared.row_head.RowHead.{RowHead}
use Rattle.cert_lines.specs.Lines.{action_at}
use Rattle.plan_cert.specs.KeyPlaces.{key_place}
use Rattle.cert_lines.specs.Lines.{IsWorth}
use Rattle.cert_merge.specs.declared.settled_sets.SettledSet.{SettledSet}
use Rattle.cert_merge.specs.declared.settled_sets.SettledSets.{SettledSets}
use Rattle.cert_merge.specs.declared.settled_sets.NextKey.{NextKey}
use Rattle.cert_merge.specs.Entries.{Settled}
use Rattle.cert_merge.specs.Merged.{settled_at}
use Rattle.cert_merge.specs.Table.{TableData, IsTable}
use Rattle.cert_merge.specs.TableChecks.{proved_by}
use Rattle.cert_merge.specs.Settled.{IsNumberAt, IsLeastWorth, IsSettledBy, IsInRange, capped}

-- the number of a key among those of its mask: by its attitude, and then by its stage
abbrev pub place_in_set : Key → ℕ
place_in_set key = key.attitude * 6 + key.stage

-- what a set says of a key
abbrev pub said_by : SettledSet → Key → Settled
said_by set key = record {
  worth = slice_index_or set.worths (place_in_set key) Blocked;
  reasons = λ action. slice_index_or set.reasons action None;
}

-- what is settled of a key; nothing where its mask isn't settled
abbrev pub said_in : SettledSets → Key → Option Settled
said_in settled key = if nat_le key.mask.0 settled.high
    then option_map (λ set. said_by set key)
    (slice_get settled.sets.items (settled.high - key.mask.0))
    else None

-- the keys of a mask are settled
pub record IsAmong (settled : SettledSets) (mask : Mask) : Type 0 where
  pub high : mask.0 ≤ settled.high
  pub within : settled.high - mask.0 < length settled.sets.items

-- the greater of a worth and of what is said, where something is
abbrev pub with_said : Worth → Option Settled → Worth
with_said worth None = worth
with_said worth (Some said) = greater worth said.worth

-- the same of a worth alone
abbrev pub with_worth : Worth → Option Worth → Worth
with_worth worth None = worth
with_worth worth (Some other) = greater worth other

-- what the base and what is settled prove of a key
abbrev pub proved_over : JobData → List RowHead → SettledSets → Key → Worth
proved_over job base settled key = with_said (proved_by job base key) (said_in settled key)

-- each key that is settled is so by what is proved of others
abbrev pub AreSettledBy : JobData → (Key → Worth) → SettledSets → Type 0
AreSettledBy job proved settled =
    (key : Key) (said : Settled) → IsKeyOf job key → said_in settled key ≡ Some said
    → IsSettledBy job proved key said

-- it is so by what the base and what is settled prove
abbrev pub AreSettled : JobData → List RowHead → SettledSets → Type 0
AreSettled job base settled = AreSettledBy job (proved_over job base settled) settled

-- so is each key of a set
abbrev pub IsSettledSet : JobData → (Key → Worth) → Mask → SettledSet → Type 0
IsSettledSet job proved mask set =
    (key : Key) → IsKeyOf job key → key.mask ≡ mask
    → IsSettledBy job proved key (said_by set key)

-- the sets of the masks of a range are settled, and no others
pub record HasSets (low high : ℕ) (settled : SettledSets) : Type 0 where
  pub top : settled.high ≡ high
  pub count : length settled.sets.items + low ≡ high + 1

-- where an action without a note leads, and what is proved there; none for any other number
abbrev pub IsNextOf : JobData → (Key → Worth) → Key → (ℕ → Option Reason) → ℕ → Option NextKey
    → Type 0
IsNextOf job proved key reasons number (Some next) =
    IsNumberAt job key number × (reasons number ≡ None)
    × (next.key ≡ key_after job key (action_at (stage_count job) number))
    × (next.proved ≡ proved next.key)
IsNextOf job proved key reasons number None = IsNumberAt job key number → reasons number ≡ None → ⊥

-- so for each number
abbrev pub AreNext : JobData → (Key → Worth) → Key → (ℕ → Option Reason) → List (Option NextKey)
    → Type 0
AreNext job proved key reasons next =
    (number : ℕ) → IsNextOf job proved key reasons number (slice_index_or next number None)

-- a next key whose numbers are in range, and of which a worth of a row is proved
pub record IsReady (job : JobData) (next : NextKey) : Type 0 where
  pub attitude : next.key.attitude < 24
  pub stage : next.key.stage < stage_count job
  pub proved : IsWorth next.proved

-- so is each of a list, which stand by the numbers of the job's actions
abbrev pub AreReady : JobData → List (Option NextKey) → Type 0
AreReady job nexts =
    (number : ℕ) (next : NextKey) → slice_index_or nexts number None ≡ Some next
    → (number < 2 * bend_count job * stage_count job) × IsReady job next

-- the step cost to a next key and then what is proved of it
abbrev pub worth_after : JobData → Key → NextKey → Worth
worth_after job key next = plus (cost_to job key next.key.attitude next.key.stage) next.proved

-- what one of the next keys comes to
abbrev pub IsAfterOne : JobData → Key → List (Option NextKey) → Worth → Type 0
IsAfterOne job key nexts worth =
    (number : ℕ) × (next : NextKey) × (slice_index_or nexts number None ≡ Some next)
    × (worth ≡ worth_after job key next)

-- the least that they come to, as a row may have it
pub record IsLeastAfter (job : JobData) (key : Key) (nexts : List (Option NextKey)) (worth : Worth)
    : Type 0 where
  pub least : Worth
  pub is_least : IsLeastWorth (IsAfterOne job key nexts) least
  pub is : worth ≡ capped least

-- the key of a number among all that a job can have; where the job has fewer stages it may be none
-- of its keys
abbrev pub key_of : ℕ → Key
key_of place = record {
  mask = record { 0 = place / 144 };
  attitude = place / 6 % 24;
  stage = place % 6;
}

-- the key of a number among all that a job can have; none where no key of the job has it
abbrev pub IsKeyAt : JobData → ℕ → Option Key → Type 0
IsKeyAt job place (Some key) = IsKeyOf job key × (key_place key ≡ place)
IsKeyAt job place None = (key : Key) → IsKeyOf job key → key_place key ≡ place → ⊥

-- a table that says of each key of a range what is settled of it, and nothing of any other
pub record SaysSettled (job : JobData) (low high : ℕ) (settled : SettledSets) (t : TableData)
    : Type 0 where
  pub form : IsTable job t
  pub same : (key : Key) → IsKeyOf job key → settled_at t key ≡ said_in settled key
  pub only :
      (key : Key) (said : Settled) → settled_at t key ≡ Some said → IsInRange job low high key
