use Rattle.toml.specs.View.{table_view}
use Rattle.toml_fields.proofs.Bind.{gives_ok}
use Rattle.machine_file.specs.Machine.{machine_data, IsMachine}
use Rattle.machine_file.specs.MachineFile.{machine_of_members}
use Rattle.machine_file.proofs.FitMachine.{table_fits}
use Rattle.machine_file.proofs.reader.read_machine.Goals as goal

pub returns-in-Ok-clause-fit : goal.returns-in-Ok-clause-fit
returns-in-Ok-clause-fit c = gives_ok machine_data c.machine_of_members.result (machine_of_members (table_view c.in-Ok.table)) IsMachine c.machine_of_members.ensures (table_fits (table_view c.in-Ok.table))
