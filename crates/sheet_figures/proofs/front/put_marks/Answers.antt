use Rattle.sheet_figures.proofs.Growing.{grows_on}
use Rattle.sheet_figures.proofs.front.put_marks.Goals as goal

pub returns : goal.returns
returns c = grows_on _ c.in_ok-put_station_numbers.ensures c.in_ok-put_ends.ensures
