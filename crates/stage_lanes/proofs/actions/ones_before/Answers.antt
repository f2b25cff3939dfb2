use Rattle.std.proofs.Common.{arith, ◌*◌}
use Rattle.stage_lanes.proofs.SetLemmas.{all_ones, some_ones}
use Rattle.stage_lanes.proofs.actions.ones_before.Goals as goal

pub returns-then-end-start-ge64 : goal.returns-then-end-start-ge64
returns-then-end-start-ge64 c = record { bits = λ bit h. all_ones (64 * c.args.word) c.args.end bit h (omega (arith, c.if-end-start-ge64.true)) }

pub returns-else-end-start-ge64 : goal.returns-else-end-start-ge64
returns-else-end-start-ge64 c = record { bits = λ bit h. some_ones (64 * c.args.word) c.args.end bit (omega (arith, c.if-end-start-ge64.false)) (omega (arith, c.if-end-start.false)) }
