-- What a reader is, and what it has still to answer.
use Rattle.std.specs.Prelude.{◌≡◌, ℕ, Bool, true, false, ◌&&◌, nat_lt, List, [], ◌∷◌}
use Rattle.std.specs.Prelude.{◌++◌, ◌<◌, length, Option, Some, None, Result, Ok, Err}
use Rattle.job_setup.specs.Setup.{JobData}
use Rattle.cert_lines.specs.declared.format.TextKind.{TextKind}
use Rattle.plan_lines.specs.declared.item.Item.{Item}
use Rattle.plan_lines.specs.declared.item.Item.TheVariants as given
use Rattle.plan_lines.specs.declared.item.CertFault.{CertFault}
use Rattle.plan_lines.specs.declared.item.CertFault.TheVariants as faults
use Rattle.plan_lines.specs.declared.section.Section.{Section}
use Rattle.plan_lines.specs.declared.section.Section.TheVariants as sections
use Rattle.plan_lines.specs.declared.line_place.LinePlace.{LinePlace}
use Rattle.cert_lines.specs.JobLines.{JobLinesData, job_of}
use Rattle.plan_lines.specs.Facts.{KeepsFacts}
use Rattle.cert_lines.specs.JobTest.{is_job}
use Rattle.plan_lines.specs.Items.{items, plan_item, plan_items}
use Rattle.cert_lines.specs.LineReading.{lines_in}
use Rattle.cert_lines.specs.LineReading.{IsBehind}

-- what is read, its text, and the number of answers so far
pub record Reading : Type 0 where
  pub kind : TextKind
  pub text : List ℕ
  pub answered : ℕ

-- the answers behind the job where this text is left, of some job of which the facts are kept
pub record LeavesPlan (place : LinePlace) (text : List ℕ) (answers : List (Result Item CertFault))
    : Type 0 where
  pub job : JobData
  pub kept : KeepsFacts place.facts job
  pub left : answers ≡ plan_items place.facts.format job place.number place.section (lines_in text)

-- these answers are left behind the job
abbrev pub LeavesIn : Section → LinePlace → List ℕ → List (Result Item CertFault) → Type 0
LeavesIn sections.Over place text answers = answers ≡ []
LeavesIn _ place text answers = LeavesPlan place text answers

-- these answers are left at a place where this text is still to be read
abbrev pub LeavesAt : LinePlace → List ℕ → List (Result Item CertFault) → Type 0
LeavesAt place text answers = LeavesIn place.section place text answers

-- these answers are left of a text, of which the job was read or refused, or not yet
abbrev pub LeavesBy : Bool → TextKind → LinePlace → List ℕ → List (Result Item CertFault) → Type 0
LeavesBy false kind place text answers = answers ≡ items kind text
LeavesBy true kind place text answers = LeavesAt place text answers

-- these answers are left behind so many
abbrev pub Leaves : ℕ → TextKind → LinePlace → List ℕ → List (Result Item CertFault) → Type 0
Leaves answered kind place text answers = LeavesBy (nat_lt 0 answered) kind place text answers

-- the first of the answers is given, and the others are left at a place before this text
abbrev pub GivesNext : List (Result Item CertFault) → Result Item CertFault → LinePlace → List ℕ
    → Type 0
GivesNext answers given place text =
    (more : List (Result Item CertFault)) × (answers ≡ given ∷ more) × LeavesAt place text more

-- the first line of the text gives this where it stands, and the text behind it is the rest
abbrev pub GivesLine : LinePlace → JobData → List ℕ → Result Item CertFault × Section → List ℕ
    → Type 0
GivesLine place job text given rest =
    (line : List ℕ) × (lines_in text ≡ line ∷ lines_in rest)
    × (given ≡ plan_item place.facts.format job place.number place.section line (lines_in rest))

-- The bytes may stand behind those of which this is the answer: where these end with the text's end,
-- or within a line, there are none.
abbrev pub HoldsBefore : Result Item CertFault → List ℕ → Type 0
HoldsBefore (Ok given.End) behind = behind ≡ []
HoldsBefore (Err faults.Unended) behind = behind ≡ []
HoldsBefore _ behind = Unit {0}

-- such an answer: the bytes at hand don't tell it, since others may stand behind them
abbrev pub IsUntold : Result Item CertFault → Type 0
IsUntold (Ok given.End) = Unit {0}
IsUntold (Err faults.Unended) = Unit {0}
IsUntold _ = ⊥

-- A line of the text gives this where it stands, and then the rest goes on, whatever bytes may stand
-- behind the text.
pub record IsNextLine (place : LinePlace) (text : List ℕ) (given : Result Item CertFault × Section)
    (rest : List ℕ) : Type 0 where
  pub behind : IsBehind text rest
  pub shorter : length rest < length text
  pub gives : (job : JobData) (behind : List ℕ) → KeepsFacts place.facts job
      → HoldsBefore given.0 behind → GivesLine place job (text ++ behind) given (rest ++ behind)

-- the bytes may stand behind a piece, which is the last one or not
abbrev pub MayBeBehind : Bool → List ℕ → Type 0
MayBeBehind is_last behind = is_last ≡ true → behind ≡ []

-- the values of the job lines are a valid job, or not
abbrev pub IsJudged : Option JobData → JobLinesData → Type 0
IsJudged (Some job) lines =
    (job ≡ job_of lines) × ((lines.is_sound && is_job (job_of lines)) ≡ true)
IsJudged None lines = (lines.is_sound && is_job (job_of lines)) ≡ false
