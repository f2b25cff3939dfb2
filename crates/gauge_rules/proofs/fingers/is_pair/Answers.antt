use Rattle.std.proofs.Common.{sym, subst}
use Rattle.machine_file.specs.declared.machine.GaugeRule.{GaugeRule}
use Rattle.job_setup.specs.LegalGauge.{AreInReach}
use Rattle.gauge_rules.proofs.Small.{clash}
use Rattle.gauge_rules.proofs.fingers.is_pair.Goals as goal

pub returns-then-are_in_reach : goal.returns-then-are_in_reach
returns-then-are_in_reach c =
    let left = c.args.left.now in
    let right = c.args.right.now in
    let reach = subst (λ (rule : GaugeRule). AreInReach rule left right) c.gauge_rule-rule.ensures.value (c.are_in_reach.ensures.0 c.if-are_in_reach.true) in
    (λ yes. record { reach = reach; free = c.are_free.ensures.0 yes }, λ pair. c.are_free.ensures.1 pair.free)

pub returns-else-are_in_reach : goal.returns-else-are_in_reach
returns-else-are_in_reach c =
    let left = c.args.left.now in
    let right = c.args.right.now in (
      λ yes. absurd (clash c.are_in_reach.result c.if-are_in_reach.false yes),
      λ pair. c.are_in_reach.ensures.1 (subst (λ (rule : GaugeRule). AreInReach rule left right) (sym c.gauge_rule-rule.ensures.value) pair.reach),
    )
