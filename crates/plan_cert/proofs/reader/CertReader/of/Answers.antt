use Rattle.std.proofs.Common.{List, ℕ, ap, sym}
use Rattle.plan_lines.specs.Items.{items}
use Rattle.plan_cert.proofs.reader.CertReader.of.Goals as goal

pub invariant_of-result : goal.invariant_of-result
invariant_of-result c = (ap (λ (t : List ℕ). items c.args.kind t) (sym c.new.ensures.rest), c.new.ensures.few)
