use Rattle.std.proofs.Common.{Some, ap, arith}
use Rattle.stage_lanes.proofs.CodeLemmas.{given_back, no_reason}
use Rattle.stage_lanes.proofs.reasons.reason_of.Goals as goal

pub returns-in-0-clause-some : goal.returns-in-0-clause-some
returns-in-0-clause-some c = λ reason coded e. ap Some (given_back c.args.code 0 c.quarter_of-quarter.result c.in-0.is c.quarter_of-quarter.ensures reason coded e)

pub returns-in-1-clause-some : goal.returns-in-1-clause-some
returns-in-1-clause-some c = λ reason coded e. rw c.half_of.ensures (ap Some (given_back c.args.code 1 c.quarter_of-quarter.result c.in-1.is c.quarter_of-quarter.ensures reason coded e))

pub returns-in-2-clause-some : goal.returns-in-2-clause-some
returns-in-2-clause-some c = λ reason coded e. ap Some (given_back c.args.code 2 c.quarter_of-quarter.result c.in-2.is c.quarter_of-quarter.ensures reason coded e)

pub returns-in-3-clause-some : goal.returns-in-3-clause-some
returns-in-3-clause-some c = λ reason coded e. ap Some (given_back c.args.code 3 c.quarter_of-quarter.result c.in-3.is c.quarter_of-quarter.ensures reason coded e)

pub returns-in-4-clause-some : goal.returns-in-4-clause-some
returns-in-4-clause-some c = λ reason coded e. ap Some (given_back c.args.code 4 c.quarter_of-quarter.result c.in-4.is c.quarter_of-quarter.ensures reason coded e)

pub returns-in-5-clause-some : goal.returns-in-5-clause-some
returns-in-5-clause-some c = λ reason coded e. ap Some (given_back c.args.code 5 c.quarter_of-quarter.result c.in-5.is c.quarter_of-quarter.ensures reason coded e)

pub returns-in-6-clause-some : goal.returns-in-6-clause-some
returns-in-6-clause-some c = λ reason coded e. ap Some (given_back c.args.code 6 c.quarter_of-quarter.result c.in-6.is c.quarter_of-quarter.ensures reason coded e)

pub returns-in-7-clause-some : goal.returns-in-7-clause-some
returns-in-7-clause-some c = λ reason coded e. ap Some (given_back c.args.code 7 c.quarter_of-quarter.result c.in-7.is c.quarter_of-quarter.ensures reason coded e)

pub returns-in-8-clause-some : goal.returns-in-8-clause-some
returns-in-8-clause-some c = λ reason coded e. ap Some (given_back c.args.code 8 c.quarter_of-quarter.result c.in-8.is c.quarter_of-quarter.ensures reason coded e)

pub returns-in_default-clause-some : goal.returns-in_default-clause-some
returns-in_default-clause-some c = λ reason coded e. absurd (no_reason c.args.code (omega (arith, c.in_default)) reason coded e)
