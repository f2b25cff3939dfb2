use Rattle.sheet_figures.proofs.Growing.{grows_on}
use Rattle.sheet_figures.proofs.distance_marks.put_x_mark.Goals as goal

pub returns : goal.returns
returns c = grows_on _ c.in_ok-put_guide.ensures c.in_ok-put_x_words.ensures
