use Rattle.std.proofs.Common.{◌∙◌, sym}
use Rattle.std.proofs.lemmas.Bool.{true≢false}
use Rattle.job_setup.specs.StrokeGroup.{group_of}
use Rattle.handling_cost.proofs.Actions.{lead_is}
use Rattle.nogood_book.proofs.Growth.{none_opposes, no_gauge_alone, first_opposes}
use Rattle.nogood_book.proofs.book.first_opposing.Goals as goal

pub reason_at-requires-clause-flat : goal.reason_at-requires-clause-flat
reason_at-requires-clause-flat c = (lead_is c.args.job.now c.args.mask c.args.action.bend c.requires.action.lead).flat

pub returns-then-is_no_gauge-clause-first : goal.returns-then-is_no_gauge-clause-first
returns-then-is_no_gauge-clause-first c =
    let action = c.args.action in
    no_gauge_alone c.args.job.now c.args.mask (group_of c.args.job.now c.args.mask action.bend) action.back action.stage c.reason_at.result c.reason_at.ensures.reason c.in-Some.reason c.in-Some.is (c.is_no_gauge.ensures.0 c.if-is_no_gauge.true)

pub returns-else-is_no_gauge-clause-first : goal.returns-else-is_no_gauge-clause-first
returns-else-is_no_gauge-clause-first c =
    let action = c.args.action in
    first_opposes c.args.job.now c.args.mask (group_of c.args.job.now c.args.mask action.bend) action.back action.stage c.reason_at.result c.reason_at.ensures.reason c.in-Some.reason c.in-Some.is
    (λ same. true≢false (sym (c.is_no_gauge.ensures.1 same) ∙ c.if-is_no_gauge.false))

pub returns-in-None-clause-first : goal.returns-in-None-clause-first
returns-in-None-clause-first c =
    let action = c.args.action in
    none_opposes c.args.job.now c.args.mask (group_of c.args.job.now c.args.mask action.bend) action.back action.stage c.reason_at.result c.reason_at.ensures.reason c.in-None.is
