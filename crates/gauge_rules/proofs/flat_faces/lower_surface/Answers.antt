use Rattle.std.proofs.Common.{ap, arith}
use Rattle.std.proofs.lemmas.Int.{ints}
use Rattle.part_file.specs.Part.{PartData}
use Rattle.gauge_rules.proofs.flat_faces.lower_surface.Goals as goal

pub returns : goal.returns
returns c =
    let thick = c.part.ensures.valid.part.sheet.thickness.range in
    let thickness = ap (λ (p : PartData). p.thickness) c.part.ensures.value in
    omega (arith, ints, thickness, thick.bottom, thick.top)
