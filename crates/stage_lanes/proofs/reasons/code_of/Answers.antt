use Rattle.std.proofs.Common.{inr, sym}
use Rattle.stage_lanes.proofs.CodeLemmas.{order_is, unique_is}
use Rattle.stage_lanes.proofs.reasons.code_of.Goals as goal

pub returns-clause-code : goal.returns-clause-code
returns-clause-code c = inr (c.args.reason, c.requires, sym c.code.ensures.value)

pub returns-clause-order : goal.returns-clause-order
returns-clause-order c = λ other coded. order_is c.args.reason other c.requires coded

pub returns-clause-unique : goal.returns-clause-unique
returns-clause-unique c = λ other coded same. unique_is c.args.reason other c.requires coded same
