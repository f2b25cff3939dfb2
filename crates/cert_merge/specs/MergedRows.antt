-- The rows of two tables together, as parts of their texts.
use Rattle.std.specs.Prelude.{◌≡◌, ℕ, ◌≤◌, List, [], ◌∷◌, ◌++◌, length, All, drop, slice_range}
use Rattle.std.specs.List.{flat_map}
use Rattle.brake_base.specs.declared.stroke.Key.{Key}
use Rattle.job_setup.specs.Setup.{JobData, stage_count}
use Rattle.cert_merge.specs.declared.merged_rows.MergedRows.{MergedRows}
use Rattle.cert_merge.specs.declared.merged_rows.Part.{Part}
use Rattle.cert_merge.specs.declared.merged_rows.Part.TheVariants as parts
use Rattle.cert_merge.specs.declared.row_texts.Side.{Side}
use Rattle.cert_merge.specs.declared.row_texts.RowText.{RowText}
use Rattle.cert_merge.specs.Entries.{Settled}
use Rattle.cert_merge.specs.MergeSteps.{Rows, heads, merge_rows, table_said}
use Rattle.cert_merge.specs.RowTexts.{IsSide, IsTextOfRow, rows_text}
use Rattle.cert_merge.specs.Table.{TableData}
use Rattle.cert_merge.specs.TableTexts.{IsTextOfTable}
use Rattle.cert_merge.specs.TextLeft.{GoesOn}
use Rattle.cert_merge.specs.UnitedRows.{AreOfJob}

-- the text of a row, where these are the texts of the rows that were joined
abbrev pub part_text : List ℕ → Part → List ℕ
part_text joined (parts.Row text) = text.now
part_text joined (parts.Joined start end) = slice_range joined start end

-- it stands among these
abbrev pub IsWithin : List ℕ → Part → Type 0
IsWithin joined (parts.Row text) = Unit {0}
IsWithin joined (parts.Joined start end) = (start ≤ end) × (end ≤ length joined)

abbrev pub parts_text : List ℕ → List Part → List ℕ
parts_text joined all = flat_map (part_text joined) all

-- these are the rows, on a machine of so many stages
pub record HoldsRows (stages : ℕ) (rows : Rows) (merged : MergedRows) : Type 0 where
  pub heads_are : merged.heads.items ≡ heads rows
  pub text_is : parts_text merged.joined.items merged.parts.items ≡ rows_text stages rows
  pub within : All (IsWithin merged.joined.items) merged.parts.items

-- the texts are those of two rows of a job, of one key
pub record AreOfOneKey (job : JobData) (bends stages : ℕ) (x y : Key × Settled)
    (first second : RowText) : Type 0 where
  pub counts : AreOfJob job bends stages
  pub first_is : IsTextOfRow job stages x first
  pub second_is : IsTextOfRow job stages y second
  pub key : x.0 ≡ y.0

-- these rows of the job are left on two sides
pub record AreSides (job : JobData) (xs ys : Rows) (first second : Side) : Type 0 where
  pub xs_are : IsSide job xs first
  pub ys_are : IsSide job ys second
  pub counts : AreOfJob job first.texts.bends first.texts.stages
  pub others : AreOfJob job second.texts.bends second.texts.stages
  pub few_bends : first.texts.bends ≤ 12
  pub few_stages : first.texts.stages ≤ 6

-- these rows are put, and those are left on two sides
pub record IsUnderway (job : JobData) (done xs ys : Rows) (merged : MergedRows)
    (first second : Side) : Type 0 where
  pub sides : AreSides job xs ys first second
  pub holds : HoldsRows (stage_count job) done merged

-- one row more is put, and the others are left
pub record GoesOnBy (job : JobData) (done xs ys : Rows) (merged : MergedRows) (first second : Side)
    : Type 0 where
  pub said : Key × Settled
  pub xs_left : Rows
  pub ys_left : Rows
  pub whole : merge_rows xs ys ≡ said ∷ merge_rows xs_left ys_left
  pub underway : IsUnderway job (done ++ said ∷ []) xs_left ys_left merged first second

-- the texts are those of two tables of a job
pub record AreTextsOf (job : JobData) (a b : TableData) (text other : List ℕ) : Type 0 where
  pub text_is : IsTextOfTable (record { job = job; table = a }) text
  pub other_is : IsTextOfTable (record { job = job; table = b }) other

-- these are the rows of two tables of a job together
abbrev pub AreMergedRows : JobData → TableData → TableData → MergedRows → Type 0
AreMergedRows job a b merged =
    HoldsRows (stage_count job) (merge_rows (table_said a) (table_said b)) merged

-- a text has gone on with the parts from one up to another
abbrev pub PartsGoOn : List ℕ → List Part → ℕ → ℕ → List ℕ → List ℕ → Type 0
PartsGoOn joined all from next old new =
    GoesOn old new (parts_text joined (drop from all)) (parts_text joined (drop next all))
