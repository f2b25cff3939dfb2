use Rattle.toml.specs.View.{table_view}
use Rattle.toml_fields.proofs.Bind.{gives_ok}
use Rattle.part_file.specs.Part.{part_data, IsPart}
use Rattle.part_file.specs.PartFile.{part_of_table}
use Rattle.part_file.proofs.FitPart.{table_fits}
use Rattle.part_file.proofs.reader.read_part.Goals as goal

pub returns-in-Ok-clause-fit : goal.returns-in-Ok-clause-fit
returns-in-Ok-clause-fit c = gives_ok part_data c.part_of_table.result (part_of_table (table_view c.in-Ok.table)) IsPart c.part_of_table.ensures (table_fits (table_view c.in-Ok.table))
