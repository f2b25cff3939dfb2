use Rattle.cert_merge.specs.TableTexts.{empty_table}
use Rattle.cert_merge.proofs.PutRows.{empty_is_table}
use Rattle.cert_merge.proofs.SettledLaws.{empty_closed}
use Rattle.cert_merge.proofs.settled_text.settle_text.Goals as goal

pub settled_over-requires-clause-base : goal.settled_over-requires-clause-base
settled_over-requires-clause-base c =
    let job = c.args.job.now in
    (empty_table, empty_is_table job c.recall_valid.ensures, empty_closed job, c.none.ensures job c.args.low c.args.high)
