use Rattle.std.proofs.Common.{inl, Option, None, sym, ◌∙◌, ap, subst}
use Rattle.brake_base.specs.declared.mask.Mask.{Mask}
use Rattle.brake_base.specs.declared.stroke.Action.{Action}
use Rattle.brake_base.specs.Actions.{IsActionAmong}
use Rattle.stage_lanes.specs.ActionSets.{has}
use Rattle.job_setup.specs.Setup.{stage_count}
use Rattle.cert_lines.specs.Lines.{action_at}
use Rattle.cert_check.specs.declared.set_actions.NextKey.{NextKey}
use Rattle.cert_check.specs.SetActions.{IsNext, IsNextOf}
use Rattle.plan_lines.proofs.NumberedActions.{tried_at}
use Rattle.cert_check.proofs.NoteLemmas.{wide}
use Rattle.cert_check.proofs.RowLemmas.{number_answer}
use Rattle.cert_check.proofs.rows.is_open.Goals as goal

pub contains-requires : goal.contains-requires
contains-requires c = subst (IsActionAmong 12 8) (sym c.action_at.ensures.value) (wide c.args.job.now c.recall_valid.ensures c.args.number c.requires.number)

pub is_closed-requires-clause-next : goal.is_closed-requires-clause-next
is_closed-requires-clause-next c =
    let job = c.args.job.now in
    let action = action_at (stage_count job) c.args.number in
    let at = subst (λ (next : Option NextKey). IsNextOf job c.args.actions.now.mask action next) (sym c.next.ensures ∙ c.in-Some.is) (c.requires.actions c.args.number c.requires.number) in
    subst (λ (mask : Mask). IsNext job mask action c.in-Some.next) c.requires.same at

pub returns-then-contains : goal.returns-then-contains
returns-then-contains c = λ tried. inl (ap (λ (a : Action). has c.args.row.now.noted a) (sym c.action_at.ensures.value) ∙ (sym c.contains.ensures ∙ c.if-contains.true))

pub returns-else-contains : goal.returns-else-contains
returns-else-contains c =
    let job = c.args.job.now in
    let head = c.args.row.now.head in
    let action = action_at (stage_count job) c.args.number in
    let at = subst (λ (next : Option NextKey). IsNextOf job c.args.actions.now.mask action next) (sym c.next.ensures ∙ c.in-Some.is) (c.requires.actions c.args.number c.requires.number) in
    let next = subst (λ (mask : Mask). IsNext job mask action c.in-Some.next) c.requires.same at in
    number_answer job c.args.rows.now.rows head c.args.row.now.noted c.args.number c.is_closed.result (c.requires.number, tried_at job head.key c.args.number c.requires.number next.lead)
    (ap (λ (a : Action). has c.args.row.now.noted a) (sym c.action_at.ensures.value) ∙ (sym c.contains.ensures ∙ c.if-contains.false)) c.is_closed.ensures

pub returns-in-None : goal.returns-in-None
returns-in-None c = λ tried.
    let job = c.args.job.now in
    let action = action_at (stage_count job) c.args.number in
    let none = subst (λ (next : Option NextKey). IsNextOf job c.args.actions.now.mask action next) (sym c.next.ensures ∙ c.in-None.is) (c.requires.actions c.args.number c.requires.number) in
    let flat = subst (λ (mask : Mask). IsNextOf job mask action None) c.requires.same none in
    let at = tried.1 in
    let lead = at.lead in
    absurd cc
