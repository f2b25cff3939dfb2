use Rattle.toml.specs.View.{table_view}
use Rattle.toml_fields.proofs.Bind.{gives_ok}
use Rattle.setup_choice.specs.Setups.{setups_data, IsSetups}
use Rattle.setup_choice.specs.SetupsFile.{setups_of_members}
use Rattle.setup_choice.proofs.FitSetups.{setups_fit}
use Rattle.setup_choice.proofs.reader.read_setups.Goals as goal

pub returns-in-Ok-clause-fit : goal.returns-in-Ok-clause-fit
returns-in-Ok-clause-fit c = gives_ok setups_data c.setups_of_members.result (setups_of_members (table_view c.in-Ok.table)) IsSetups c.setups_of_members.ensures (setups_fit (table_view c.in-Ok.table))
