-- Notes whose lines are known, and of which the reasons hold.
use Rattle.std.specs.Prelude.{◌≡◌, ◌⊎◌, ℕ, Some, None}
use Rattle.brake_base.specs.declared.reason.Reason.{Reason}
use Rattle.job_setup.specs.Setup.{JobData, stage_count}
use Rattle.handling_cost.specs.Plan.{IsReasonFor}
use Rattle.plan_lines.specs.declared.item.Item.{Item}
use Rattle.plan_lines.specs.declared.item.Item.TheVariants as given
use Rattle.cert_lines.specs.Lines.{action_at}
use Rattle.plan_lines.specs.NoteLines.{KnownReasons, reason_by}
use Rattle.cert_check.specs.declared.row_notes.RowNotes.{RowNotes}

-- the reason holds against the action of a number where the bends of the last row are folded
abbrev pub HoldsNow : JobData → RowNotes → ℕ → Reason → Type 0
HoldsNow job notes number reason =
    IsReasonFor job notes.folded.mask (action_at (stage_count job) number) reason

-- as long as no unsound note is kept, each reason that is known holds there
pub record KnowsSound (job : JobData) (notes : RowNotes) (known : KnownReasons) : Type 0 where
  pub stages : known.stages ≡ stage_count job
  pub sound :
      notes.unsound ≡ None → (number : ℕ) (reason : Reason)
      → reason_by known number ≡ Some reason → HoldsNow job notes number reason

-- the same but for the note that an item is
pub record KnowsSoundBut (job : JobData) (notes : RowNotes) (item : Item) (known : KnownReasons)
    : Type 0 where
  pub stages : known.stages ≡ stage_count job
  pub sound :
      notes.unsound ≡ None → (number : ℕ) (reason : Reason)
      → reason_by known number ≡ Some reason
      → HoldsNow job notes number reason ⊎ (item ≡ given.Note number reason)
