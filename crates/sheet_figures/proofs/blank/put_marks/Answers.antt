use Rattle.sheet_figures.proofs.Growing.{grows_on}
use Rattle.sheet_figures.proofs.blank.put_marks.Goals as goal

pub returns : goal.returns
returns c = grows_on _ (grows_on _ (grows_on _ (grows_on _ c.in_ok-put_face_names.ensures c.in_ok-put_y_marks.ensures) c.in_ok-put_x_marks.ensures) c.in_ok-put_bend_numbers.ensures) c.in_ok-put_corner.ensures
