use Rattle.std.proofs.Common.{refl}
use Rattle.cert_check.proofs.read_cert.begun.Goals as goal

pub returns-clause-parts : goal.returns-clause-parts
returns-clause-parts c = record { claim = refl; steps = c.new.ensures; rows = c.in_ok-rows.ensures.items }
