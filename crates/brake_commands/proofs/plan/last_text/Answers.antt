use Rattle.std.proofs.Common.{List, sym, ◌∙◌, subst}
use Rattle.brake_base.specs.declared.stroke.Step.{Step}
use Rattle.handling_cost.specs.Plan.{start}
use Rattle.setup_sheet.specs.OrderSheet.{AreSteps}
use Rattle.brake_commands.proofs.Claims.{claimed_told}
use Rattle.brake_commands.proofs.plan.last_text.Goals as goal

pub order_sheet-requires : goal.order_sheet-requires
order_sheet-requires c =
    let found = c.requires.1 in
    let told = claimed_told c.args.job.now found.0 c.in-Cost.field-0 found.1.proves.proves (sym found.3.claim ∙ c.in-Cost.is) in
    rw c.as_slice.ensures.value (subst (λ (steps : List Step). AreSteps c.args.job.now start steps) (sym found.3.steps) told)
