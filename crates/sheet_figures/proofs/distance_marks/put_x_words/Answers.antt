use Rattle.sheet_figures.proofs.Growing.{grown, grows_on}
use Rattle.sheet_figures.proofs.distance_marks.put_x_words.Goals as goal

pub returns : goal.returns
returns c = grows_on _ (grown _ _ c.in_ok-put_leader.ensures) (grown _ _ c.in_ok-put_noted_upright.ensures)
