use Rattle.std.proofs.Common.{sym, ◌∙◌, subst}
use Rattle.std.proofs.lemmas.Option.{same_Some}
use Rattle.action_lanes.specs.Costs.{sum_costs}
use Rattle.action_lanes.proofs.SumLemmas.{sum_cost}
use Rattle.bb_search.specs.declared.known.KnownActions.{KnownActions}
use Rattle.bb_search.specs.declared.settle.Choice.{Choice}
use Rattle.bb_search.specs.KnownActions.{IsChoice}
use Rattle.bb_search.proofs.ChoiceLemmas.{choice_is, totals_fit}
use Rattle.bb_search.proofs.settle.choose.Goals as goal

pub least_total-best-requires : goal.least_total-best-requires
least_total-best-requires c = record {
  room = totals_fit c.args.table.now.job c.args.key.now c.args.leads c.args.sums.now c.known.result.now c.requires.sums
      (c.requires.small c.known.result.now c.known.ensures);
}

pub tested_for-tested-requires-clause-room : goal.tested_for-tested-requires-clause-room
tested_for-tested-requires-clause-room c =
    totals_fit c.args.table.now.job c.args.key.now c.args.leads c.args.sums.now c.known.result.now c.requires.sums
    (c.requires.small c.known.result.now c.known.ensures)

pub returns : goal.returns
returns c = λ at here.
    let job = c.args.table.now.job in
    let key = c.args.key.now in
    let known = c.known.result.now in
    let sums = c.args.sums.now in
    let found = c.tested_for-tested.ensures in
    let choice : Choice = record { best = c.least_total-best.result; tested = c.tested_for-tested.result } in
    subst (λ (k : KnownActions). IsChoice job key k choice) (same_Some known at (sym c.known.ensures ∙ here))
    (choice_is job c.requires.valid key c.args.leads c.requires.leads c.requires.only sums
    (sum_costs sums known.slack) known c.requires.sums (sum_cost sums known.slack) choice
    c.least_total-best.ensures found.tested found.rest found.most)
