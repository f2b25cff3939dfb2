use Rattle.sheet_figures.proofs.Growing.{grows_on}
use Rattle.sheet_figures.proofs.distance_marks.put_y_mark.Goals as goal

pub returns : goal.returns
returns c = grows_on _ c.in_ok-put_guide.ensures c.in_ok-put_y_words.ensures
