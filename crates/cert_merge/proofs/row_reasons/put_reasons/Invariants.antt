use Rattle.std.proofs.Common.{◌≡◌, ◌++◌, None, slice_index_or}
use Rattle.cert_merge.specs.MergeSteps.{notes_upto}
use Rattle.cert_merge.proofs.row_reasons.put_reasons.Given as goal

-- the notes against the first so many actions are put
abbrev pub invariant-loop-action : goal.invariant-loop-action
invariant-loop-action l = l.notes.items ≡ l.initial.notes.items ++ notes_upto l.row (λ action. slice_index_or l.reasons action None) l.action
