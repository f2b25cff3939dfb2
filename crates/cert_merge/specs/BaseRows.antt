-- The rows of a base, cut at a range of masks.
use Rattle.std.specs.Prelude.{◌≡◌, ℕ, ◌<◌, ◌≤◌, List, [], ◌∷◌, ◌++◌, length, Option, Some, None}
use Rattle.brake_base.specs.declared.stroke.Key.{Key}
use Rattle.job_setup.specs.Setup.{JobData, stage_count}
use Rattle.cert_lines.specs.declared.row_head.RowHead.{RowHead}
use Rattle.cert_merge.specs.declared.base_rows.BaseRows.{BaseRows}
use Rattle.cert_merge.specs.declared.row_texts.RowTexts.{RowTexts}
use Rattle.cert_merge.specs.Entries.{Settled}
use Rattle.cert_merge.specs.MergeSteps.{Rows, head_of, heads, table_said}
use Rattle.cert_merge.specs.RowTexts.{AreLeft, rows_text}
use Rattle.cert_merge.specs.Table.{TableData}

-- the keys of rows have such masks
abbrev pub HaveMasks : (ℕ → Type 0) → Rows → Type 0
HaveMasks P [] = Unit {0}
HaveMasks P (said ∷ rows) = P said.0.mask.0 × HaveMasks P rows

-- there is no first row, or its mask isn't below a number
abbrev pub IsFirstFrom : ℕ → Rows → Type 0
IsFirstFrom end [] = Unit {0}
IsFirstFrom end (said ∷ rows) = end ≤ said.0.mask.0

-- the first of the rows is taken, where its mask is below a number
abbrev pub TakesBelow : JobData → ℕ → Rows → Option (RowHead × RowTexts) → Type 0
TakesBelow job end rows None = IsFirstFrom end rows
TakesBelow job end rows (Some x) =
    (said : Key × Settled) × (more : Rows) × (rows ≡ said ∷ more) × (said.0.mask.0 < end)
    × (x.0 ≡ head_of said) × AreLeft job more x.1

-- of these rows some are taken, whose masks are below a number, with their heads; the others are left
pub record AreTakenSo (job : JobData) (rows : Rows) (end : ℕ) (old new : List RowHead)
    (texts : RowTexts) : Type 0 where
  pub taken : Rows
  pub left : Rows
  pub whole : rows ≡ taken ++ left
  pub below : HaveMasks (λ mask. mask < end) taken
  pub heads_are : new ≡ old ++ heads taken
  pub are_left : AreLeft job left texts

-- all are taken up to the first whose mask isn't below it, and this is their text
pub record AreTaken (job : JobData) (rows : Rows) (end : ℕ) (old : List RowHead) (text : List ℕ)
    (new : List RowHead) (texts : RowTexts) : Type 0 where
  pub so : AreTakenSo job rows end old new texts
  pub first_left : IsFirstFrom end so.left
  pub text_is : text ≡ rows_text texts.stages so.taken

-- the rows of a table of the job before a range of masks, those inside and those behind it
pub record AreCut (job : JobData) (base : TableData) (low high : ℕ) (rows : BaseRows) : Type 0 where
  pub first : Rows
  pub among : Rows
  pub last : Rows
  pub whole : table_said base ≡ first ++ (among ++ last)
  pub lesser : HaveMasks (λ mask. mask < low) first
  pub within : HaveMasks (λ mask. (low ≤ mask) × (mask ≤ high)) among
  pub greater : HaveMasks (λ mask. high < mask) last
  pub heads_are : rows.heads.items ≡ base.rows
  pub before_is : rows.before.now ≡ rows_text (stage_count job) first
  pub behind_is : rows.behind.now ≡ rows_text (stage_count job) last
  pub count_is : rows.inside ≡ length among
