use Rattle.std.proofs.Common.{length}
use Rattle.plan_cert.specs.CertReading.{answers_left}
use Rattle.brake_draw.proofs.steps.+take_steps.Given as goal

-- how many answers are left
abbrev pub decreases-take_steps : goal.decreases-take_steps
decreases-take_steps l = length (answers_left l.reader.now)
