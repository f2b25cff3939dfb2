use Rattle.std.proofs.Common.{◌+◌}
use Rattle.job_setup.specs.Setup.{JobData, stage_count}
use Rattle.cert_merge.specs.MergeSteps.{Rows}
use Rattle.cert_merge.specs.MergedRows.{HoldsRows, IsUnderway}
use Rattle.cert_merge.specs.RowTexts.{AreLeft, size_of_side}
use Rattle.cert_merge.proofs.MergingTexts.{AreLeftOver}
use Rattle.cert_merge.proofs.merged_rows.put_all.Given as goal

-- some rows are put, and the others are left on the sides
abbrev pub invariant-loop-second : goal.invariant-loop-second
invariant-loop-second l = record {
  some : (job : JobData) × (done : Rows) × (xs : Rows) × (ys : Rows) × IsUnderway job done xs ys l.merged l.first l.second;
  left : (job : JobData) (done xs ys : Rows) → HoldsRows (stage_count job) done l.fn.merged → AreLeft job xs l.fn.first → AreLeft job ys l.fn.second → AreLeftOver job done xs ys l.merged l.first l.second;
}

abbrev pub decreases-loop-second : goal.decreases-loop-second
decreases-loop-second l = size_of_side l.first + size_of_side l.second
