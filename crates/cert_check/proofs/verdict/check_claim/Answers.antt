use Rattle.std.proofs.Common.{sym, subst}
use Rattle.handling_cost.specs.StepCost.{IsKeyOf}
use Rattle.handling_cost.proofs.Keys.{start_in_range}
use Rattle.cert_check.proofs.verdict.check_claim.Goals as goal

pub is_proved-requires-clause-key : goal.is_proved-requires-clause-key
is_proved-requires-clause-key c = subst (IsKeyOf c.args.job.now) (sym c.start_key.ensures) (start_in_range c.args.job.now c.recall_valid.ensures)
