use Rattle.std.proofs.Common.{◌∙◌, arith, sym, ap, subst}
use Rattle.brake_base.specs.declared.stroke.Worth.{Worth}
use Rattle.brake_base.specs.declared.stroke.Worth.TheVariants.{Cost}
use Rattle.cert_lines.specs.Lines.{IsWorth}
use Rattle.plan_cert.proofs.RowOrder.{few_stages}
use Rattle.cert_merge.specs.Settling.{proved_over, said_in, with_said, with_worth}
use Rattle.cert_merge.proofs.SettledWorths.{with_row, with_settled, with_small, row_in_small, said_small}
use Rattle.cert_merge.proofs.settled_sets.proved_over.Goals as goal

pub worth_of-requires : goal.worth_of-requires
worth_of-requires c = c.requires.base.order

pub worth-known-requires : goal.worth-known-requires
worth-known-requires c = let few = few_stages c.args.job.now c.recall_valid.ensures in let stage = c.requires.key.stage in omega (arith, few, stage)

pub returns-clause-value : goal.returns-clause-value
returns-clause-value c =
    let job = c.args.job.now in
    let key = c.args.key.now in
    let said = said_in c.args.settled.now key in
    let by_base = c.at_least-by_base.ensures ∙ with_row job c.recall_valid.ensures c.args.base.now c.requires.base key c.bound_at-bound.result c.worth_of.result c.bound_at-bound.ensures.value c.worth_of.ensures in
    c.at_least.ensures
    ∙ (ap (with_worth c.at_least-by_base.result) c.worth-known.ensures
    ∙ (with_settled c.at_least-by_base.result said
    ∙ ap (λ (w : Worth). with_said w said) by_base))

pub returns-clause-small : goal.returns-clause-small
returns-clause-small c =
    let job = c.args.job.now in
    let key = c.args.key.now in
    let settled = c.args.settled.now in
    let bound = c.bound_at-bound.ensures.small in
    let by_base : IsWorth c.at_least-by_base.result =
    subst IsWorth (sym c.at_least-by_base.ensures)
    (with_small (Cost c.bound_at-bound.result) c.worth_of.result (omega (arith, bound)) (row_in_small job c.recall_valid.ensures c.args.base.now c.requires.base key c.worth_of.result c.worth_of.ensures)) in
    subst IsWorth (sym c.at_least.ensures)
    (with_small c.at_least-by_base.result c.worth-known.result by_base (λ w is. said_small job (proved_over job c.args.base.now settled) settled key c.requires.settled c.requires.key w (sym c.worth-known.ensures ∙ is)))
