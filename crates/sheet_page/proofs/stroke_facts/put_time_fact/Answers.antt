use Rattle.std.proofs.Common.{arith}
use Rattle.sheet_page.proofs.stroke_facts.put_time_fact.Goals as goal

pub seconds-requires : goal.seconds-requires
seconds-requires c = omega (arith, c.requires.small)
