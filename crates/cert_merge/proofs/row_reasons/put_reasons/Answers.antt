use Rattle.std.proofs.Common.{◌≡◌, ◌++◌, ◌∙◌, ℕ, ap, None, slice_index_or, arith}
use Rattle.cert_merge.specs.MergeSteps.{most_actions, notes_upto}
use Rattle.cert_merge.proofs.row_reasons.put_reasons.Goals as goal

pub returns : goal.returns
unfolding most_actions
returns c =
    let all : c.loop-action.action ≡ most_actions = let test = c.loop-action-test.false in let far = c.loop-action.auto.action-end in omega (arith, test, far) in
    c.loop-action.invariant ∙ ap (λ (n : ℕ). c.args.notes.now.items ++ notes_upto c.args.row (λ action. slice_index_or c.args.reasons.now action None) n) all
