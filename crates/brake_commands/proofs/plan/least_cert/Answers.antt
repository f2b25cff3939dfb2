use Rattle.std.proofs.Common.{Some, None, arith}
use Rattle.brake_commands.specs.PlanAnswer.{Finds}
use Rattle.brake_commands.proofs.Searching.{enough}
use Rattle.brake_commands.proofs.PlanAnswers.{few_reached}
use Rattle.brake_commands.proofs.plan.least_cert.Goals as goal

pub unreachable-requires : goal.unreachable-requires
unreachable-requires c =
    let none : Finds c.args.job.now c.max.result None = rw c.in-None.is at c.in_ok-found.ensures in
    enough c.args.job.now c.requires c.max.result (omega (arith, c.nodes.ensures.value, c.max.ensures)) none

pub returns : goal.returns
returns c =
    let found : Finds c.args.job.now c.max.result (Some c.in-Some.cert) = rw c.in-Some.is at c.in_ok-found.ensures in
    (found.0, found.1, few_reached c.args.job.now c.max.result found.0 found.2, found.3)
