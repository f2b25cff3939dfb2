-- Two rows of one key with one worth, as text.
use Rattle.std.specs.Prelude.{◌≡◌, ℕ, ◌<◌, List, All, Option, None, map, slice_index_or}
use Rattle.brake_base.specs.declared.stroke.Key.{Key}
use Rattle.brake_base.specs.declared.reason.Reason.{Reason}
use Rattle.job_setup.specs.Setup.{JobData, bend_count, stage_count}
use Rattle.plan_lines.specs.declared.note.Note.{Note}
use Rattle.cert_lines.specs.Lines.{lines_text}
use Rattle.plan_cert.specs.CertText.{line_of_note}
use Rattle.cert_merge.specs.declared.row_texts.RowText.{RowText}
use Rattle.cert_merge.specs.Entries.{Settled}
use Rattle.cert_merge.specs.RowTexts.{IsNoteOfJob, IsRowOfJob, IsTextOfRow, notes_text}

-- so many bends and stages are those of the job
pub record AreOfJob (job : JobData) (bends stages : ℕ) : Type 0 where
  pub bends_are : bends ≡ bend_count job
  pub stages_are : stages ≡ stage_count job

-- the text is that of these notes, which are of the first row, in a job of so many bends and stages
pub record AreNotesOf (job : JobData) (bends stages : ℕ) (notes : List Note) (text : List ℕ)
    : Type 0 where
  pub counts : AreOfJob job bends stages
  pub text_is : text ≡ lines_text (map (line_of_note stages) notes)
  pub rows : All (λ note. note.row ≡ 0) notes
  pub each : All (λ note. IsNoteOfJob job note.action note.reason) notes

-- the reasons are those of the row whose notes have this text, in a job of so many bends and stages
abbrev pub AreReasonsOf : ℕ → ℕ → List ℕ → List (Option Reason) → Type 0
AreReasonsOf bends stages text reasons =
    (job : JobData) (said : Key × Settled) → AreOfJob job bends stages → IsRowOfJob job said
    → text ≡ notes_text stages said → (action : ℕ) → action < 144
    → slice_index_or reasons action None ≡ said.1.reasons action

-- the texts are those of two rows of a job, of one key and one worth
pub record AreOfOneRow (job : JobData) (bends stages : ℕ) (x y : Key × Settled)
    (first second : RowText) : Type 0 where
  pub counts : AreOfJob job bends stages
  pub first_is : IsTextOfRow job stages x first
  pub second_is : IsTextOfRow job stages y second
  pub key : x.0 ≡ y.0
  pub worth : x.1.worth ≡ y.1.worth
