use Rattle.std.proofs.Common.{◌≡◌, ℕ, subst}
use Rattle.job_setup.specs.Setup.{bend_count, stage_count}
use Rattle.handling_cost.proofs.Actions.{few_bends}
use Rattle.cert_lines.specs.Lines.{action_at}
use Rattle.plan_lines.proofs.Actions.{action_is, few_actions}
use Rattle.cert_merge.proofs.settled_sets.action_at.Goals as goal

pub returns : goal.returns
returns c =
    let job = c.args.job.now in
    let below = few_actions c.args.number (bend_count job) (stage_count job) (few_bends job c.stages.ensures.valid) c.requires in
    subst (λ (s : ℕ). c.action_of.result ≡ action_at s c.args.number) c.stages.ensures.value
    (action_is c.stages.result c.args.number c.action_of.result (rw c.stages.ensures.value below) c.action_of.ensures.action c.action_of.ensures.value)
