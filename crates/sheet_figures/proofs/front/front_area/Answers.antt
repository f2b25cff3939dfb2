use Rattle.std.proofs.Common.{arith}
use Rattle.std.proofs.lemmas.Int.{ints}
use Rattle.sheet_figures.proofs.front.front_area.Goals as goal

pub returns : goal.returns
returns c =
    let die = c.requires.stage.die.sizes.height in
    let punch = c.requires.stage.punch.sizes.height in
    record {
      x0 = omega (arith, ints, c.requires.x0);
      x1 = omega (arith, ints, c.requires.x1);
      y0 = omega (arith, ints, die.bottom, die.top, c.spare_height-spare.ensures);
      y1 = omega (arith, ints, punch.bottom, punch.top, c.spare_height-spare.ensures);
    }
