-- What the rows of a merge of two texts tell.
use Rattle.std.proofs.Common.{◌≡◌, List, subst, sym, ◌∙◌, refl}
use Rattle.brake_base.specs.declared.stroke.Key.{Key}
use Rattle.brake_base.specs.declared.stroke.Worth.{Worth}
use Rattle.job_setup.specs.Setup.{JobData}
use Rattle.handling_cost.specs.Plan.{start}
use Rattle.plan_cert.specs.WellFormed.{AreRowsOf}
use Rattle.cert_merge.specs.declared.merged_rows.MergedRows.{MergedRows}
use Rattle.cert_merge.specs.MergedRows.{AreMergedRows, AreTextsOf}
use Rattle.cert_merge.specs.MergedTexts.{IsMergeOfTexts}
use Rattle.cert_merge.specs.MergeSteps.{merge_rows, table_said}
use Rattle.cert_merge.specs.Table.{TableData, IsTable}
use Rattle.cert_merge.specs.TableChecks.{proved_by}
use Rattle.cert_merge.specs.TableTexts.{IsTextOfTable}
use Rattle.cert_merge.proofs.MergedForm.{is_merged}
use Rattle.cert_merge.proofs.MergeOf.{merge_of, keeps_closed, keeps_form}

table_of : (job : JobData) (t : TableData) (text : List _) → IsTextOfTable (record { job = job; table = t }) text → IsTable job t
table_of job t text is = record { valid = is.valid; rows = is.rows }

module _ (job : JobData) (a b : TableData) (text other : List _) (are : AreTextsOf job a b text other) (rows : MergedRows) (merged : AreMergedRows job a b rows) where
  first : IsTable job a
  first = table_of job a text are.text_is

  second : IsTable job b
  second = table_of job b other are.other_is

  form : IsTable job (merge_of a b)
  form = keeps_form a b job first second

  -- its rows are rows of the job
  pub heads_of_job : AreRowsOf job rows.heads.items
  heads_of_job = subst (AreRowsOf job) (sym merged.heads_are) (record { each = form.rows.each_row; order = form.rows.row_order })

  pub told_of : (at_start : Worth) (key : Key) → key ≡ start → at_start ≡ proved_by job rows.heads.items key → IsMergeOfTexts job a b (record { rows = rows; at_start = at_start })
  told_of at_start key key_is is = record {
    table = merge_of a b;
    is_merged = is_merged job a b first second;
    form = keeps_form a b;
    closed = keeps_closed a b;
    told = record {
      rows = merge_rows (table_said a) (table_said b);
      holds = merged;
      table_is = refl;
      start_is = is ∙ (λ i. proved_by job (merged.heads_are i) (key_is i));
    };
  }
