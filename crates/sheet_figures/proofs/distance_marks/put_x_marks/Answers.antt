use Rattle.sheet_figures.proofs.Growing.{grows_on}
use Rattle.sheet_figures.proofs.distance_marks.put_x_marks.Goals as goal

pub loop-i-preserved : goal.loop-i-preserved
loop-i-preserved c = grows_on _ c.loop-i.invariant c.in_ok-put_x_mark.ensures
