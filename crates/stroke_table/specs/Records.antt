-- What is kept of a job for its strokes: of groups, and of boxes.
use Rattle.std.specs.Prelude.{◌≡◌, ℕ, ◌+◌, ◌*◌, ◌^◌, ◌<◌, ◌≤◌, ◌&&◌, List, length}
use Rattle.std.specs.Prelude.{slice_index_or, slice_get, All, Some, None, vec_capacity}
use Rattle.brake_base.specs.declared.mask.Mask.{Mask}
use Rattle.brake_base.specs.Masks.{has}
use Rattle.brake_base.specs.Turns.{map_of}
use Rattle.unfolder.specs.Cores.{joint_of}
use Rattle.fold_boxes.specs.Pose.{IsGroup, lead_of, face_of_box, IsNumberOfBox}
use Rattle.fold_boxes.specs.Posing.{IsNearPoseBox}
use Rattle.job_setup.specs.Setup.{JobData, shape_of, bend_count, stage_count}
use Rattle.box_support.specs.Deciding.{is_deciding}
use Rattle.stroke_table.specs.declared.keys.GroupKey.{GroupKey}
use Rattle.stroke_table.specs.declared.keys.BoxKey.{BoxKey}
use Rattle.stroke_table.specs.declared.known.FoundBox.{FoundBox}
use Rattle.stroke_table.specs.declared.records.BoxRecord.{BoxRecord}
use Rattle.stroke_table.specs.declared.records.GroupRecord.{GroupRecord}
use Rattle.stroke_table.specs.declared.records.StrokeRecords.{StrokeRecords}
use Rattle.stroke_table.specs.BoxReasons.{AreAround}
use Rattle.stroke_table.specs.Codes.{AreLeastCodes, HoldsAmong, stroke_box, stroke_place, IsOfBox}

-- the face on which the bends of a group stand
abbrev pub parent_of : JobData → Mask → ℕ
parent_of job group = (joint_of job.part.faces (lead_of (shape_of job) group)).on

-- of the job's bends the set has those that decide where a box lies as seen from a face
abbrev pub AreDeciding : JobData → ℕ → ℕ → Mask → Type 0
AreDeciding job from number bends =
    (bend : ℕ) → 1 ≤ bend → bend < length job.part.faces
    → has bends bend ≡ is_deciding job.part.faces from number bend

-- Those sets for each face and each box: that of face f and box b stands at place 25 f + b.
pub record AreAllDeciding (job : JobData) (sets : List Mask) : Type 0 where
  pub count : length sets ≡ 325
  pub each :
      (from number : ℕ) → from < length job.part.faces → number < 25
      → face_of_box number < length job.part.faces
      → AreDeciding job from number
      (slice_index_or sets (25 * from + number) (record { 0 = 0 }))

-- The key is that of a box of a stroke: of the bends that decide where it lies the key has the
-- folded ones.
pub record IsBoxKey (job : JobData) (mask : Mask) (key : BoxKey) : Type 0 where
  pub group : IsGroup (shape_of job) mask key.of.group
  pub number : IsNumberOfBox (shape_of job) mask key.number
  pub folded :
      (bend : ℕ) → 1 ≤ bend → bend < length job.part.faces
      → has key.folded bend
      ≡ (has mask bend
      && is_deciding job.part.faces (parent_of job key.of.group) key.number bend)

-- What is found of the box of a number is so in a stroke of this group and side.
pub record IsFoundOf (job : JobData) (mask : Mask) (of : GroupKey) (number : ℕ) (found : FoundBox)
    : Type 0 where
  pub codes : AreLeastCodes (stage_count job) (IsOfBox job mask of number) found.codes.0
  pub body : found.body ≡ stroke_box job mask of number 0
  pub near : IsNearPoseBox found.body
  pub place :
      number < length job.part.faces → map_of found.place ≡ stroke_place job mask of number

-- what is found of a box is so in a stroke that has it
abbrev pub IsFoundBox : JobData → Mask → BoxKey → FoundBox → Type 0
IsFoundBox job mask key = IsFoundOf job mask key.of key.number

-- what is kept of a box is so in each stroke that has it
abbrev pub IsBoxRecord : JobData → BoxRecord → Type 0
IsBoxRecord job known =
    (mask : Mask) → mask.0 < 2 ^ bend_count job → IsBoxKey job mask known.key
    → IsFoundBox job mask known.key known.found

-- the record at this index is that of the box of this key
abbrev pub HasRecordAt : List BoxRecord → BoxKey → ℕ → Type 0
HasRecordAt records key index =
    (one : BoxRecord) × (slice_get records index ≡ Some one) × (one.key ≡ key)

-- What is kept of a group is so of each of its strokes.
pub record IsGroupRecord (job : JobData) (known : GroupRecord) : Type 0 where
  pub lines :
      (mask : Mask)
      → AreLeastCodes (stage_count job) (HoldsAmong job mask known.key 1 2) known.lines.0
  pub load :
      (mask : Mask)
      → AreLeastCodes (stage_count job) (HoldsAmong job mask known.key 8 8) known.load.0

-- What is kept for a job: what stands around the part, the deciding bends, and true records of groups
-- and boxes. For boxes there are 16,384 places of an index, and memory for as many records.
pub record AreKept (job : JobData) (kept : StrokeRecords) : Type 0 where
  pub around : AreAround job kept.around.items
  pub deciding : AreAllDeciding job kept.deciding.items
  pub some_place : 0 < length kept.groups.items
  pub index_count : length kept.indices.items ≡ 16384
  pub room : 16384 ≤ vec_capacity kept.boxes
  pub groups :
      (place : ℕ) (one : GroupRecord) → slice_index_or kept.groups.items place None ≡ Some one
      → IsGroupRecord job one
  pub boxes : All (IsBoxRecord job) kept.boxes.items
