use Rattle.std.proofs.Common.{sym, ◌∙◌}
use Rattle.std.proofs.lemmas.Option.{IfSome_then}
use Rattle.bb_search.proofs.PlanLemmas.{known_there, known_only, known_small}
use Rattle.bb_search.proofs.plan.known_cost.Goals as goal

pub returns-clause-small : goal.returns-clause-small
returns-clause-small c =
    IfSome_then c.cost_in.result c.cost_in.ensures.some
    (λ cost is. known_small c.args.job.now c.args.pool.now c.requires.sound c.args.key.now c.requires.job c.requires.key cost
    (known_there c.args.job.now c.args.pool.now c.requires.sound c.args.key.now c.in_ok-row.row cost c.in_ok-row.ensures.row (sym c.worth.ensures.worth ∙ is)))

pub returns-clause-only : goal.returns-clause-only
returns-clause-only c =
    λ cost known. c.cost_in.ensures.only cost
    (c.worth.ensures.worth ∙ known_only c.args.job.now c.args.pool.now c.requires.sound c.args.key.now c.in_ok-row.ensures.pool c.in_ok-row.row cost c.in_ok-row.ensures.row
    (λ full. let no = c.if-is_full.ensures.1 full in cc) known)
