use Rattle.std.proofs.Common.{sym, subst}
use Rattle.handling_cost.specs.StepCost.{IsKeyOf}
use Rattle.handling_cost.proofs.Keys.{start_in_range}
use Rattle.sheet_page.proofs.stroke.first_key.Goals as goal

pub returns-clause-range : goal.returns-clause-range
returns-clause-range c = subst (IsKeyOf c.args.job.now) (sym c.start_key.ensures) (start_in_range c.args.job.now c.recall_valid.ensures)
