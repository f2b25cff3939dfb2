use Rattle.std.proofs.Common.{◌≡◌, refl, arith}
use Rattle.job_setup.specs.Setup.{bend_count}
use Rattle.cert_merge.proofs.SaidTexts.{rows_begun}
use Rattle.cert_merge.proofs.merged_rows.rows_behind.Goals as goal

pub returns : goal.returns
returns c = record {
  rows = λ table begins is.
      let bends : c.bends.result ≡ bend_count c.args.job.now = omega (arith, c.bends.ensures.value) in
      rows_begun c.args.job.now table c.args.text.now is _ c.args.beginning.now begins bends c.stages.ensures.value c.split_at.ensures.back refl;
}
