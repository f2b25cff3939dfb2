use Rattle.std.proofs.Common.{to_z-of_z}
use Rattle.sheet_figures.proofs.Apart.{near_fits, apart_fits}
use Rattle.sheet_figures.proofs.blank.moved_face.Goals as goal

pub returns-clause-value : goal.returns-clause-value
returns-clause-value c =
    let rect = c.args.face.now.rect in
    let extent = c.args.extent.now in
    let face = c.requires.face in
    let least = c.requires.extent in
    simp (
      to_z-of_z (near_fits rect.x0 face.x0),
      to_z-of_z (near_fits rect.x1 face.x1),
      to_z-of_z (near_fits rect.y0 face.y0),
      to_z-of_z (near_fits rect.y1 face.y1),
      to_z-of_z (near_fits extent.x0 least.x0),
      to_z-of_z (near_fits extent.y0 least.y0),
      to_z-of_z (apart_fits rect.x0 extent.x0 face.x0 least.x0),
      to_z-of_z (apart_fits rect.x1 extent.x0 face.x1 least.x0),
      to_z-of_z (apart_fits rect.y0 extent.y0 face.y0 least.y0),
      to_z-of_z (apart_fits rect.y1 extent.y0 face.y1 least.y0),
    )
