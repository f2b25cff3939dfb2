use Rattle.sheet_figures.proofs.Growing.{grown, grows_on}
use Rattle.sheet_figures.proofs.face_names.put_bend_number.Goals as goal

pub returns : goal.returns
returns c = grows_on _ (grown _ _ c.in_ok-put_circle.ensures) (grown _ _ c.in_ok-put_label.ensures)
