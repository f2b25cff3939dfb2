use Rattle.std.proofs.Common.{arith, ◌∙◌}
use Rattle.std.proofs.lemmas.List.{get_or_default}
use Rattle.std.proofs.lemmas.List.Elements.{Contains-get_or}
use Rattle.bb_search.proofs.OrderLists.{order_in}
use Rattle.bb_search.proofs.PlanLemmas.{none_more, none_at_all}
use Rattle.bb_search.proofs.plan.first_onward.Goals as goal

pub action_in-action-requires-clause-order : goal.action_in-action-requires-clause-order
action_in-action-requires-clause-order c =
    order_in c.args.job.now c.args.key.now c.args.orders.now c.requires.orders _ (Contains-get_or c.args.orders.now c.loop-order.order-index _ c.loop-order-test.true)

pub loop-order-preserved : goal.loop-order-preserved
loop-order-preserved c = record {
  none = none_more c.args.job.now c.requires.job c.args.pool.now.rows c.args.key.now c.args.worth c.args.orders.now c.loop-order.order-index c.action_in-action.result c.action_in-action.ensures.action
      (λ d. get_or_default c.args.orders.now c.loop-order.order-index d _ c.loop-order-test.true ∙ c.action_in-action.ensures.order)
      c.loop-order.invariant.none c.in_default.ensures.none;
  table = c.step_by-found.ensures.table ∙ c.loop-order.invariant.table;
}

pub unreachable-requires : goal.unreachable-requires
unreachable-requires c =
    none_at_all c.args.job.now c.args.pool.now c.requires.sound c.args.key.now c.requires.job c.args.worth c.args.orders.now c.requires.orders c.requires.row
    (λ k d within. c.loop-order.invariant.none k d (omega (arith, within, c.loop-order-test.false)))
