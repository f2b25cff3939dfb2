use Rattle.std.proofs.Common.{to_z-of_z}
use Rattle.sheet_figures.proofs.Apart.{near_fits, apart_fits}
use Rattle.sheet_figures.proofs.blank.moved_line.Goals as goal

pub returns-clause-value : goal.returns-clause-value
returns-clause-value c =
    let line = c.args.line.now in
    let extent = c.args.extent.now in
    let near = c.requires.line in
    let least = c.requires.extent in
    simp (
      to_z-of_z (near_fits line.from.0 near.from_x),
      to_z-of_z (near_fits line.from.1 near.from_y),
      to_z-of_z (near_fits line.to.0 near.to_x),
      to_z-of_z (near_fits line.to.1 near.to_y),
      to_z-of_z (near_fits extent.x0 least.x0),
      to_z-of_z (near_fits extent.y0 least.y0),
      to_z-of_z (apart_fits line.from.0 extent.x0 near.from_x least.x0),
      to_z-of_z (apart_fits line.from.1 extent.y0 near.from_y least.y0),
      to_z-of_z (apart_fits line.to.0 extent.x0 near.to_x least.x0),
      to_z-of_z (apart_fits line.to.1 extent.y0 near.to_y least.y0),
    )
