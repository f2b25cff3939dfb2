use Rattle.std.specs.Prelude.{bytes_eq}
use Rattle.tool_library.specs.Tools.{punch_data}
use Rattle.job_setup.proofs.Lists.{found_data}
use Rattle.job_setup.proofs.stages.punch_named.Goals as goal

pub returns : goal.returns
returns c = found_data (λ punch. punch.now) punch_data (λ punch. bytes_eq punch.name c.args.name.now.bytes) c.first_punch.result c.args.punches.now c.first_punch.ensures
