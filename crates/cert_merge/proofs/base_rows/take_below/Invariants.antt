use Rattle.std.proofs.Common.{◌≡◌, ◌≤◌, length}
use Rattle.job_setup.specs.Setup.{JobData}
use Rattle.cert_merge.specs.MergeSteps.{Rows}
use Rattle.cert_merge.specs.RowTexts.{AreLeft}
use Rattle.cert_merge.specs.BaseRows.{AreTakenSo}
use Rattle.cert_merge.proofs.base_rows.take_below.Given as goal

-- some rows are taken, and the others are left
abbrev pub invariant-loop-head : goal.invariant-loop-head
invariant-loop-head l = record {
  all : l.all ≡ l.fn.texts.rest.now;
  within : length l.texts.rest.now ≤ length l.all;
  some : (job : JobData) × (rows : Rows) × AreLeft job rows l.texts;
  taken : (job : JobData) (rows : Rows) → AreLeft job rows l.fn.texts → AreTakenSo job rows l.end l.fn.heads.items l.heads.items l.texts;
}

abbrev pub decreases-loop-head : goal.decreases-loop-head
decreases-loop-head l = length l.texts.rest.now
