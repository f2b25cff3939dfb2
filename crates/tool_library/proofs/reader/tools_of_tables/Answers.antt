use Rattle.std.proofs.Common.{rules, arith}
use Rattle.std.proofs.lemmas.List.{length-map}
use Rattle.tool_library.proofs.reader.tools_of_tables.Goals as goal

pub returns-clause-fit : goal.returns-clause-fit
returns-clause-fit c = record {
  few_punches = simp length-map (omega (arith, c.in_ok-punches.ensures.count));
  punches = c.in_ok-punches.ensures.fit;
  punch_names = search rules;
  few_dies = simp length-map (omega (arith, c.in_ok-dies.ensures.count));
  dies = c.in_ok-dies.ensures.fit;
  die_names = search rules;
  allow = record { few = simp length-map (omega (arith, c.in_ok-rows.ensures.count)); each = c.in_ok-rows.ensures.fit };
  few_loads = simp length-map (omega (arith, c.in_ok-loads.ensures.count));
  loads = c.in_ok-loads.ensures.fit;
}
