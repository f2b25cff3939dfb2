use Rattle.std.specs.Prelude.{bytes_eq}
use Rattle.tool_library.specs.Tools.{die_data}
use Rattle.job_setup.proofs.Lists.{found_data}
use Rattle.job_setup.proofs.stages.die_named.Goals as goal

pub returns : goal.returns
returns c = found_data (λ die. die.now) die_data (λ die. bytes_eq die.name c.args.name.now.bytes) c.first_die.result c.args.dies.now c.first_die.ensures
