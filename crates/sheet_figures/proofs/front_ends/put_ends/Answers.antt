use Rattle.sheet_figures.proofs.Growing.{grown, grows_on}
use Rattle.sheet_figures.proofs.front_ends.put_ends.Goals as goal

pub loop-i-preserved : goal.loop-i-preserved
loop-i-preserved c = grows_on _ c.loop-i.invariant (grown _ _ c.in_ok-put_end.ensures)
