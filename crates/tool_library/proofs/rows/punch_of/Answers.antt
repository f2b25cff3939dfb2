use Rattle.std.proofs.Common.{rules}
use Rattle.tool_library.proofs.rows.punch_of.Goals as goal

pub returns-clause-fit : goal.returns-clause-fit
returns-clause-fit c = record {
  name = search rules;
  sizes = record { height = search rules; nose = search rules; limit = search rules };
  lists = record { few_boxes = search rules; each_box = search rules; few_sections = search rules; each_section = search rules };
}
