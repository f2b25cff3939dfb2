use Rattle.std.proofs.Common.{◌∙◌, sym, ap, subst}
use Rattle.job_setup.specs.Setup.{JobData}
use Rattle.handling_cost.specs.StepCost.{IsKeyOf}
use Rattle.handling_cost.specs.Bound.{bound_of}
use Rattle.cert_check.specs.Rows.{ProvesAfter}
use Rattle.cert_check.proofs.rows.is_proved.Goals as goal

pub is_proved_with-requires-clause-key : goal.is_proved_with-requires-clause-key
is_proved_with-requires-clause-key c = subst (λ (job : JobData). IsKeyOf job c.args.key.now) (sym c.requires.rows) c.requires.key

pub is_proved_with-requires-clause-bound : goal.is_proved_with-requires-clause-bound
is_proved_with-requires-clause-bound c = c.bound_at-bound.ensures.value ∙ ap (λ (job : JobData). bound_of job c.args.key.now) (sym c.requires.rows)

pub returns : goal.returns
returns c = (
  (λ yes. subst (λ (job : JobData). ProvesAfter job c.args.rows.now.rows c.args.key.now c.args.cost c.args.worth) c.requires.rows (c.is_proved_with.ensures.0 yes)),
  λ proves. c.is_proved_with.ensures.1 (subst (λ (job : JobData). ProvesAfter job c.args.rows.now.rows c.args.key.now c.args.cost c.args.worth) (sym c.requires.rows) proves),
)
