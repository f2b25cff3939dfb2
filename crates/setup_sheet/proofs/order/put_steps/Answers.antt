use Rattle.std.proofs.Common.{◌≡◌, ◌<◌, ◌++◌, ap, sym, subst, arith}
use Rattle.brake_base.specs.declared.stroke.Key.{Key}
use Rattle.handling_cost.specs.StepCost.{IsKeyOf}
use Rattle.handling_cost.specs.Plan.{start}
use Rattle.handling_cost.proofs.Keys.{start_ranged}
use Rattle.handling_cost.proofs.PlanSteps.{no_step}
use Rattle.setup_sheet.specs.OrderSheet.{AreSteps, step_lines}
use Rattle.setup_sheet.proofs.OrderSteps.{first_step}
use Rattle.setup_sheet.proofs.order.put_steps.Goals as goal

pub loop-i-init : goal.loop-i-init
loop-i-init c =
    let job = c.args.job.now in
    let steps = c.args.steps.now in
    let begins : c.start_key-key.result ≡ start = c.start_key-key.ensures in
    record {
      range = λ some. subst (IsKeyOf job) (sym begins) (start_ranged job some);
      left = subst (λ (k : Key). AreSteps job k steps) (sym begins) c.requires;
      text = ap (λ (k : Key). c.args.out.now.items ++ step_lines job 1 k steps) begins;
    }

pub put_step-requires-clause-key : goal.put_step-requires-clause-key
put_step-requires-clause-key c =
    let at = first_step c.args.job.now c.loop-i.key c.args.steps.now c.loop-i.i no_step c.loop-i-test.true c.loop-i.invariant.left in
    c.loop-i.invariant.range (omega (arith, at.action.stage))
