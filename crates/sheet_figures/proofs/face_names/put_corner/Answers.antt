use Rattle.sheet_figures.proofs.Growing.{grown}
use Rattle.sheet_figures.proofs.face_names.put_corner.Goals as goal

pub returns : goal.returns
returns c = grown _ _ c.in_ok-put_triangle.ensures
