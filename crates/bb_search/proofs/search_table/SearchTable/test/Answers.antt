use Rattle.std.proofs.Common.{sym, subst, None}
use Rattle.handling_cost.proofs.Actions.{lead_is}
use Rattle.bb_search.specs.declared.search_table.Tested.{Tested}
use Rattle.bb_search.specs.Tested.{IsTested}
use Rattle.bb_search.proofs.TestLemmas.{IsFirstFor, refused, has_gauge, free}
use Rattle.bb_search.proofs.search_table.SearchTable.test.Goals as goal

pub reason_at-requires-clause-flat : goal.reason_at-requires-clause-flat
reason_at-requires-clause-flat c = (lead_is c.args.job.now c.args.key.now.mask c.args.action.bend c.requires.action.lead).flat

pub stroke_at-stroke-requires-clause-flat : goal.stroke_at-stroke-requires-clause-flat
stroke_at-stroke-requires-clause-flat c = (lead_is c.args.job.now c.args.key.now.mask c.args.action.bend c.requires.action.lead).flat

pub held-requires : goal.held-requires
held-requires c =
    let job = c.args.job.now in
    let key = c.args.key.now in
    let none : IsFirstFor job key c.args.action None = subst (IsFirstFor job key c.args.action) c.in-None.is c.reason_at.ensures.reason in
    λ no. has_gauge job key c.args.action c.requires.action none c.stroke_at-stroke.result c.stroke_at-stroke.ensures.stroke no

pub returns-in-Some-clause-tested : goal.returns-in-Some-clause-tested
returns-in-Some-clause-tested c =
    let job = c.args.job.now in
    let key = c.args.key.now in
    refused job key c.args.action c.in-Some.reason (subst (IsFirstFor job key c.args.action) c.in-Some.is c.reason_at.ensures.reason)

pub returns-in-None-clause-tested : goal.returns-in-None-clause-tested
returns-in-None-clause-tested c =
    let job = c.args.job.now in
    let key = c.args.key.now in
    let none : IsFirstFor job key c.args.action None = subst (IsFirstFor job key c.args.action) c.in-None.is c.reason_at.ensures.reason in
    let held = c.held.ensures in
    subst (λ (tested : Tested). IsTested job key c.args.action tested) (sym held.2) (free job key c.args.action c.requires.action none c.stroke_at-stroke.result c.stroke_at-stroke.ensures.stroke held.0 held.1)
