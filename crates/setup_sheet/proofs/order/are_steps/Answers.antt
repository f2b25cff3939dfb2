use Rattle.std.proofs.Common.{◌≡◌, ◌<◌, List, sym, subst, arith}
use Rattle.brake_base.specs.declared.stroke.Key.{Key}
use Rattle.handling_cost.specs.StepCost.{IsKeyOf}
use Rattle.handling_cost.specs.Plan.{start}
use Rattle.handling_cost.proofs.Keys.{start_ranged}
use Rattle.handling_cost.proofs.PlanSteps.{no_step}
use Rattle.setup_sheet.specs.OrderSheet.{AreSteps}
use Rattle.setup_sheet.proofs.OrderSteps.{first_step, next_steps, with_step, none_left}
use Rattle.setup_sheet.proofs.order.are_steps.Goals as goal

pub loop-step-init : goal.loop-step-init
loop-step-init c =
    let job = c.args.job.now in
    let steps = c.args.steps.now in
    let begins : c.start_key-key.result ≡ start = c.start_key-key.ensures in
    record {
      range = λ some. subst (IsKeyOf job) (sym begins) (start_ranged job some);
      whole = subst (λ (k : Key). AreSteps job k steps → AreSteps job start steps) (sym begins) (λ are. are);
      left = subst (λ (k : Key). AreSteps job start steps → AreSteps job k steps) (sym begins) (λ are. are);
    }
