use Rattle.std.proofs.Common.{◌↔◌, IsTrue, sym, subst}
use Rattle.brake_base.specs.declared.reason.Reason.{Reason}
use Rattle.handling_cost.specs.Plan.{IsReasonFor}
use Rattle.stroke_table.proofs.holding.holds_anew.Goals as goal

pub returns-in-NoGauge : goal.returns-in-NoGauge
returns-in-NoGauge c = subst (λ (reason : Reason). IsTrue c.lacks_gauge.result ↔ IsReasonFor c.args.job.now c.args.mask c.args.action reason) (sym c.in-NoGauge.is) c.lacks_gauge.ensures
