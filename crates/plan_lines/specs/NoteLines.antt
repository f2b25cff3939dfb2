-- Lines of notes that are known by the numbers of their actions, and the notes that they tell.
use Rattle.std.specs.Prelude.{◌≡◌, ◌≢◌, ℕ, zero, suc, ◌+◌, ◌*◌, ◌/◌, ◌%◌, ◌<◌, ◌≤◌, true, List}
use Rattle.std.specs.Prelude.{[], ◌∷◌, ◌++◌, length, map, All, Option, Some, None, is_some, Result}
use Rattle.std.specs.Prelude.{Ok, slice_index_or, ◌⊎◌}
use Rattle.brake_base.specs.declared.mask.Mask.{Mask}
use Rattle.brake_base.specs.declared.stroke.Key.{Key}
use Rattle.brake_base.specs.declared.reason.Reason.{Reason}
use Rattle.brake_base.specs.declared.reason.Reason.TheVariants.{Cover}
use Rattle.brake_base.specs.Masks.{has}
use Rattle.brake_base.specs.Actions.{number_of_action}
use Rattle.stage_lanes.specs.declared.actions.ActionSet.{ActionSet}
use Rattle.stage_lanes.specs.ActionSets.{has_place, places_of}
use Rattle.job_setup.specs.Setup.{JobData}
use Rattle.job_setup.specs.StrokeGroup.{is_lead}
use Rattle.cert_lines.specs.declared.format.Format.{Format}
use Rattle.plan_lines.specs.declared.item.Item.{Item}
use Rattle.plan_lines.specs.declared.item.Item.TheVariants as given
use Rattle.plan_lines.specs.declared.item.CertFault.{CertFault}
use Rattle.cert_words.specs.PlanWords.{note_in}
use Rattle.plan_lines.specs.declared.section.PlanLine.TheVariants as kinds
use Rattle.plan_lines.specs.declared.section.Section.TheVariants as sections
use Rattle.plan_lines.specs.declared.line_place.LinePlace.{LinePlace}
use Rattle.plan_lines.specs.declared.note.Note.{Note}
use Rattle.plan_lines.specs.declared.job_facts.JobFacts.{JobFacts}
use Rattle.plan_lines.specs.declared.note.KnownNote.{KnownNote}
use Rattle.plan_lines.specs.declared.job_facts.SetLeads.{SetLeads}
use Rattle.plan_lines.specs.declared.note_run.NoteRun.{NoteRun}
use Rattle.plan_lines.specs.declared.note_run.NoteBlock.{NoteBlock}
use Rattle.plan_lines.specs.Facts.{KeepsFacts, HasFew}
use Rattle.cert_lines.specs.LineReading.{keyword_in, behind_keyword, lines_in}
use Rattle.plan_lines.specs.PlanReading.{plan_line_of}
use Rattle.plan_lines.specs.Items.{next_number, plan_items}
use Rattle.cert_lines.specs.LineReading.{IsBehind}
use Rattle.plan_lines.specs.Reading.{LeavesAt}

-- on a machine of so many stages, the known reasons by the numbers of their actions
pub record KnownReasons : Type 0 where
  pub stages : ℕ
  pub reasons : List (Option Reason)

-- the reason that is known against the action of a number
abbrev pub reason_by : KnownReasons → ℕ → Option Reason
reason_by known number = slice_index_or known.reasons number None

-- the number, on a machine of so many stages, of the action that has a place in sets
abbrev pub number_at : ℕ → ℕ → ℕ
number_at stages place = place / 8 * stages + place % 8

-- the reason that is known against the action of a place
abbrev pub reason_at : KnownReasons → ℕ → Option Reason
reason_at known place = reason_by known (number_at known.stages place)

abbrev pub or_cover : Option Reason → Reason
or_cover (Some reason) = reason
or_cover None = Cover

-- the note of the action of a place, as a reader answers it
abbrev pub note_told : KnownReasons → ℕ → Result Item CertFault
note_told known place =
    Ok (given.Note (number_at known.stages place) (or_cover (reason_at known place)))

-- the notes of the actions of a set, in the order of their numbers, as a reader answers them
abbrev pub notes_told : KnownReasons → ActionSet → List (Result Item CertFault)
notes_told known set = map (note_told known) (places_of set)

-- a reason is known against the action of a place, which is at a stage of the machine
abbrev pub IsKnownAt : KnownReasons → ℕ → Type 0
IsKnownAt known place = (is_some (reason_at known place) ≡ true) × (place % 8 < known.stages)

-- so it is with each action of the set
abbrev pub AreKnownAll : KnownReasons → ActionSet → Type 0
AreKnownAll known set = All (IsKnownAt known) (places_of set)

-- what is known then was known before
abbrev pub KnowsNoMore : KnownReasons → KnownReasons → Type 0
KnowsNoMore old new = (new.stages ≡ old.stages)
    × ((other : ℕ) (known : Reason) → reason_by new other ≡ Some known
    → reason_by old other ≡ Some known)

-- what is known then was known before, or is this reason against the action of this number
abbrev pub KnowsAtMost : KnownReasons → ℕ → Reason → KnownReasons → Type 0
KnowsAtMost old number reason new = (new.stages ≡ old.stages)
    × ((other : ℕ) (known : Reason) → reason_by new other ≡ Some known
    → (reason_by old other ≡ Some known) ⊎ ((other ≡ number) × (known ≡ reason)))

-- the same behind an answer: what is new is the note that was answered
abbrev pub LearnsFrom : KnownReasons → Result Item CertFault → KnownReasons → Type 0
LearnsFrom old answer new = (new.stages ≡ old.stages)
    × ((other : ℕ) (known : Reason) → reason_by new other ≡ Some known
    → (reason_by old other ≡ Some known) ⊎ (answer ≡ Ok (given.Note other known)))

-- each of these bends is a lead of its group where the bends are folded
abbrev pub AreLeads : JobFacts → SetLeads → Type 0
AreLeads facts set =
    (job : JobData) (bend : ℕ) → KeepsFacts facts job → 1 ≤ bend → bend ≤ facts.bends
    → has set.leads bend ≡ true → is_lead job set.folded bend ≡ true

abbrev pub reason_of : Option KnownNote → Option Reason
reason_of (Some note) = Some note.reason
reason_of None = None

-- the reasons of the notes that are held
abbrev pub known_reasons : ℕ → List (Option KnownNote) → KnownReasons
known_reasons stages held = record {
  stages = stages;
  reasons = map reason_of held;
}

-- the line is one, it is that of a note, and in a job of so many bends and stages its words say this
pub record IsKnown (bends stages : ℕ) (note : KnownNote) : Type 0 where
  pub alone : All (λ byte. byte ≢ 10) note.line.now
  pub keyword : plan_line_of (keyword_in note.line.now) ≡ Some kinds.Note
  pub words : note_in bends stages (behind_keyword note.line.now) ≡ Some (note.action, note.reason)

-- a known note of the job, held at its action's number
pub record IsHeld (facts : JobFacts) (number : ℕ) (note : KnownNote) : Type 0 where
  pub known : IsKnown facts.bends facts.stages note
  pub at : number_of_action facts.stages note.action ≡ number

-- each note is so
abbrev pub AreHeld : JobFacts → List (Option KnownNote) → Type 0
AreHeld facts held =
    (number : ℕ) (note : KnownNote) → slice_index_or held number None ≡ Some note
    → IsHeld facts number note

-- a note's line with its line feed
abbrev pub line_of : KnownNote → List ℕ
line_of note = note.line.now ++ 10 ∷ []

-- a known note that is held may stand where the number is at least this, and these bends are leads
pub record MayStand (facts : JobFacts) (held : List (Option KnownNote)) (leads : Mask) (least : ℕ)
    (note : KnownNote) : Type 0 where
  pub known : IsKnown facts.bends facts.stages note
  pub is_held : slice_index_or held (number_of_action facts.stages note.action) None ≡ Some note
  pub from_least : least ≤ number_of_action facts.stages note.action
  pub is_lead : has leads note.action.bend ≡ true

-- the number of the line behind so many lines
abbrev pub numbers_on : ℕ → ℕ → ℕ
numbers_on zero n = n
numbers_on (suc count) n = numbers_on count (next_number n)

-- these bytes are the lines of the notes of a set, of which there are so many, from the least number
-- on and below the next one: where these bends are leads, a reader answers the notes, and the known
-- reasons are theirs
pub record AreLines (facts : JobFacts) (known : KnownReasons) (leads : Mask) (least : ℕ)
    (bytes : List ℕ) (notes : ActionSet) (count next : ℕ) : Type 0 where
  pub told :
      (format : Format) (job : JobData) (key : Key) (n : ℕ) (behind : List ℕ)
      → KeepsFacts facts job → AreLeads facts (record { folded = key.mask; leads = leads })
      → plan_items format job n (sections.Notes key least) (lines_in (bytes ++ behind))
      ≡ notes_told known notes ++ plan_items format job (numbers_on count n)
      (sections.Notes key next) (lines_in behind)
  pub below : (place : ℕ) → place < 192 → has_place notes place ≡ true
      → number_at known.stages place < next
  pub are_known : AreKnownAll known notes
  pub count_is : length (places_of notes) ≡ count
  pub few : count ≤ next
  pub long : count ≤ length bytes

-- the lines of notes from a number on were taken from the front of a text
pub record IsRun (facts : JobFacts) (known : KnownReasons) (leads : Mask) (least : ℕ)
    (text : List ℕ) (run : NoteRun) : Type 0 where
  pub front : List ℕ
  pub is_text : text ≡ front ++ run.rest.now
  pub are : AreLines facts known leads least front run.notes run.count run.least

-- the lines of a row's notes
abbrev pub IsBlock : JobFacts → KnownReasons → NoteBlock → Type 0
IsBlock facts known block =
    AreLines facts known block.leads 0 block.text.now block.notes block.count block.least

-- what lines of notes are kept and which were read, and for which job
pub record AreNoteLines (facts : JobFacts) (held read : List (Option KnownNote)) (leads : SetLeads)
    (blocks : List NoteBlock) : Type 0 where
  pub few : HasFew facts
  pub are_held : AreHeld facts held
  pub are_read : AreHeld facts read
  pub are_leads : AreLeads facts leads
  pub are_blocks : All (IsBlock facts (known_reasons facts.stages held)) blocks

-- at rows of this set the text begins with the lines of the run's notes
pub record IsTaken (facts : JobFacts) (known : KnownReasons) (folded : Mask) (least : ℕ)
    (text : List ℕ) (run : NoteRun) : Type 0 where
  pub told :
      (job : JobData) (key : Key) (n : ℕ) (behind : List ℕ) → KeepsFacts facts job
      → key.mask ≡ folded
      → plan_items facts.format job n (sections.Notes key least) (lines_in (text ++ behind))
      ≡ notes_told known run.notes ++ plan_items facts.format job (numbers_on run.count n)
      (sections.Notes key run.least) (lines_in (run.rest.now ++ behind))
  pub cut : IsBehind text run.rest.now
  pub shorter : run.count + length run.rest.now ≤ length text
  pub count_is : length (places_of run.notes) ≡ run.count
  pub are_known : AreKnownAll known run.notes

-- these of the answers are given, and the others are left at a place before this text
abbrev pub GivesAll : List (Result Item CertFault) → List (Result Item CertFault) → LinePlace
    → List ℕ → Type 0
GivesAll answers told place text =
    (more : List (Result Item CertFault)) × (answers ≡ told ++ more) × LeavesAt place text more

-- the note of the action of a place at a row, with the reason that is known against it
abbrev pub note_by : ℕ → KnownReasons → ℕ → Note
note_by row known place = record {
  row = row;
  action = number_at known.stages place;
  reason = or_cover (reason_at known place);
}
