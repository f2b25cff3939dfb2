use Rattle.std.proofs.Common.{◌+◌, ◌∙◌, ap}
use Rattle.std.specs.Prelude.{slice_index}
use Rattle.cert_merge.specs.SetWorths.{cost_of_change, lanes_of}
use Rattle.cert_merge.proofs.set_worths.costs_after.Goals as goal

pub returns : goal.returns
returns c = λ stage low.
    let change = c.all-change.ensures.lanes stage low ∙ (c.change.ensures.value ∙ ap (cost_of_change c.args.facts.now c.args.from) c.from_number.ensures) in
    c.plus.ensures.lanes stage low ∙ (λ i. change i + slice_index (lanes_of c.args.proved.now (c.from.ensures i)) stage)
