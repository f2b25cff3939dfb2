-- The merge of two tables by their texts.
use Rattle.std.specs.Prelude.{◌≡◌}
use Rattle.job_setup.specs.Setup.{JobData, stage_count}
use Rattle.handling_cost.specs.Plan.{start}
use Rattle.cert_merge.specs.declared.merged_texts.MergedTexts.{MergedTexts}
use Rattle.cert_merge.specs.Merged.{IsMerged, KeepsClosed, KeepsForm}
use Rattle.cert_merge.specs.MergedRows.{HoldsRows}
use Rattle.cert_merge.specs.MergeSteps.{Rows, written}
use Rattle.cert_merge.specs.Table.{TableData}
use Rattle.cert_merge.specs.TableChecks.{proved_by}

-- these are the rows of a table of the job, and what they prove of the start
pub record IsToldOf (job : JobData) (table : TableData) (merged : MergedTexts) : Type 0 where
  pub rows : Rows
  pub holds : HoldsRows (stage_count job) rows merged.rows
  pub table_is : table ≡ written rows
  pub start_is : merged.at_start ≡ proved_by job table.rows start

-- it is the merge of two tables of the job
pub record IsMergeOfTexts (job : JobData) (a b : TableData) (merged : MergedTexts) : Type 0 where
  pub table : TableData
  pub is_merged : IsMerged a b table
  pub form : KeepsForm a b table
  pub closed : KeepsClosed a b table
  pub told : IsToldOf job table merged
