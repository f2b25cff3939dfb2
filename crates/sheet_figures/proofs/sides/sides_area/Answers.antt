use Rattle.sheet_figures.proofs.sides.sides_area.Goals as goal

pub returns-clause-value : goal.returns-clause-value
returns-clause-value c = record {
  shown = c.side_area-shown.result;
  least = c.side_area-shown.ensures.value;
  value = c.near_area.ensures.value;
}
