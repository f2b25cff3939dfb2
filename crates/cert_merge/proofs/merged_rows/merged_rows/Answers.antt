use Rattle.std.proofs.Common.{◌∙◌, []}
use Rattle.job_setup.specs.Setup.{stage_count}
use Rattle.cert_merge.specs.declared.merged_rows.MergedRows.{MergedRows}
use Rattle.cert_merge.specs.MergeSteps.{table_said}
use Rattle.cert_merge.proofs.JoinedRows.{none_held}
use Rattle.cert_merge.proofs.SaidTexts.{long_enough}
use Rattle.cert_merge.proofs.merged_rows.merged_rows.Goals as goal

pub rows_behind-rows-requires : goal.rows_behind-rows-requires
rows_behind-rows-requires c = long_enough c.args.job.now c.requires.0 c.args.first.now c.requires.2.text_is c.as_slice.result.now (c.as_slice.ensures.value ∙ c.in_ok-beginning.ensures)

pub rows_behind-others-requires : goal.rows_behind-others-requires
rows_behind-others-requires c = long_enough c.args.job.now c.requires.1 c.args.second.now c.requires.2.other_is c.as_slice-2.result.now (c.as_slice-2.ensures.value ∙ c.in_ok-beginning.ensures)

pub put_all-requires : goal.put_all-requires
put_all-requires c =
    let merged : MergedRows = record { heads = c.in_ok-heads.heads; parts = c.in_ok-parts.parts; joined = c.new.result } in (
      c.args.job.now,
      [],
      table_said c.requires.0,
      table_said c.requires.1,
      none_held (stage_count c.args.job.now) merged c.in_ok-heads.ensures.items c.in_ok-parts.ensures.items,
      c.rows_behind-rows.ensures.rows c.requires.0 (c.as_slice.ensures.value ∙ c.in_ok-beginning.ensures) c.requires.2.text_is,
      c.rows_behind-others.ensures.rows c.requires.1 (c.as_slice-2.ensures.value ∙ c.in_ok-beginning.ensures) c.requires.2.other_is,
    )

pub returns : goal.returns
returns c = λ a b are.
    let merged : MergedRows = record { heads = c.in_ok-heads.heads; parts = c.in_ok-parts.parts; joined = c.new.result } in
    c.in_ok-put_all.ensures c.args.job.now [] (table_said a) (table_said b) (none_held (stage_count c.args.job.now) merged c.in_ok-heads.ensures.items c.in_ok-parts.ensures.items)
    (c.rows_behind-rows.ensures.rows a (c.as_slice.ensures.value ∙ c.in_ok-beginning.ensures) are.text_is) (c.rows_behind-others.ensures.rows b (c.as_slice-2.ensures.value ∙ c.in_ok-beginning.ensures) are.other_is)
