use Rattle.std.proofs.Common.{◌∷◌, ◌++◌, [], sym, subst}
use Rattle.cert_check.specs.RowNotes.{AreNoted}
use Rattle.cert_check.proofs.NoteLemmas.{noted_row}
use Rattle.cert_check.proofs.row_notes.RowNotes.add_row.Goals as goal

pub returns-clause-sets : goal.returns-clause-sets
returns-clause-sets c = λ rows head notes are.
    let job = c.args.job.now in
    subst (AreNoted job (rows ++ head ∷ []) notes) (sym c.in_ok-push.ensures.items)
    (noted_row job c.recall_valid.ensures rows head notes c.args.self.now.sets.items c.empty.result c.empty.ensures.value are)
