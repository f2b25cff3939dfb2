use Rattle.std.proofs.Common.{◌<◌, ◌*◌, ◌∙◌, ℕ, ap, arith}
use Rattle.cert_lines.specs.Lines.{action_at}
use Rattle.plan_lines.proofs.Actions.{action_is}
use Rattle.sheet_page.proofs.refusal_table.action_in.Goals as goal

pub returns-clause-value : goal.returns-clause-value
returns-clause-value c =
    let below : c.args.number < 24 * c.stages.result = omega (arith, c.requires, c.stages.ensures.value) in
    action_is c.stages.result c.args.number c.action_of.result below c.action_of.ensures.action c.action_of.ensures.value ∙ ap (λ (s : ℕ). action_at s c.args.number) c.stages.ensures.value
