use Rattle.plan_cert.proofs.Exactly.{whole}
use Rattle.plan_cert.proofs.cert_reading.read_cert.Goals as goal

pub returns-clause-whole : goal.returns-clause-whole
returns-clause-whole c = whole c.args.text.now c.read_file.result c.read_file.ensures
