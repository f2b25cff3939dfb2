use Rattle.sheet_figures.proofs.Growing.{grows_on}
use Rattle.sheet_figures.proofs.face_names.put_bend_numbers.Goals as goal

pub loop-line-preserved : goal.loop-line-preserved
loop-line-preserved c = grows_on _ c.loop-line.invariant c.in_ok-put_bend_number.ensures
