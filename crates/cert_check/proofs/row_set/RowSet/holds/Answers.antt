use Rattle.std.proofs.Common.{◌≡◌, ◌↔◌, IsTrue, true, arith, sym, ◌∙◌, ap, subst}
use Rattle.brake_base.specs.declared.stroke.Action.{Action}
use Rattle.job_setup.specs.StrokeGroup.{is_lead}
use Rattle.handling_cost.specs.Plan.{IsReasonFor}
use Rattle.handling_cost.proofs.Actions.{few_bends, lead_is}
use Rattle.cert_check.proofs.row_set.RowSet.holds.Goals as goal

pub contains-requires-clause-last : goal.contains-requires-clause-last
contains-requires-clause-last c = let few = few_bends c.args.job.now c.recall_valid.ensures in let last = c.action_at-action.ensures.last in omega (arith, few, last)

pub holds-requires-clause-mask : goal.holds-requires-clause-mask
holds-requires-clause-mask c =
    let action = c.action_at-action in
    (c.requires.leads.only action.result.bend action.ensures.first action.ensures.last (sym c.contains.ensures ∙ c.if-contains.true)).0

pub holds-requires-clause-flat : goal.holds-requires-clause-flat
holds-requires-clause-flat c =
    let action = c.action_at-action in
    (lead_is c.args.job.now c.args.self.now.mask action.result.bend (c.requires.leads.only action.result.bend action.ensures.first action.ensures.last (sym c.contains.ensures ∙ c.if-contains.true)).1).flat

pub returns-then-contains-clause-holds : goal.returns-then-contains-clause-holds
returns-then-contains-clause-holds c = λ mask lead. subst (λ (a : Action). IsTrue c.holds.result ↔ IsReasonFor c.args.job.now c.args.self.now.mask a c.args.reason) c.action_at-action.ensures.value c.holds.ensures.holds

pub returns-then-contains-clause-sound : goal.returns-then-contains-clause-sound
returns-then-contains-clause-sound c = λ is. subst (λ (a : Action). IsReasonFor c.args.job.now c.args.self.now.mask a c.args.reason) c.action_at-action.ensures.value (c.holds.ensures.holds.0 is)

pub returns-else-contains-clause-holds : goal.returns-else-contains-clause-holds
returns-else-contains-clause-holds c = λ mask lead.
    let job = c.args.job.now in
    let action = c.action_at-action in
    let own = c.requires.leads.all mask action.result.bend action.ensures.first action.ensures.last in
    let is : is_lead job c.args.self.now.mask action.result.bend ≡ true = ap (λ (a : Action). is_lead job c.args.self.now.mask a.bend) action.ensures.value ∙ lead in
    absurd (let one = sym c.if-contains.false ∙ (c.contains.ensures ∙ (own ∙ is)) in cc)
