use Rattle.std.proofs.Common.{ap, FitsSigned, to_z-of_z, w64, rules, arith}
use Rattle.std.proofs.lemmas.Int.{ints}
use Rattle.brake_base.proofs.Vectors.{same_point, same_box}
use Rattle.part_file.specs.Part.{PartData}
use Rattle.job_setup.specs.Setup.{SetupData}
use Rattle.gauge_rules.proofs.fingers.finger_box.Goals as goal

pub returns : goal.returns
returns c =
    let r0 : FitsSigned w64 c.args.range.0 = search rules in
    let r1 : FitsSigned w64 c.args.range.1 = search rules in
    let edge = c.requires.face.hi.y in
    let rule = c.setup.ensures.valid.setup.rules.gauge in
    let thick = c.part.ensures.valid.part.sheet.thickness.range in
    let thickness = ap (λ (p : PartData). p.thickness) c.part.ensures.value in
    let below = ap (λ (s : SetupData). s.gauge.below) c.setup.ensures.value in
    let depth = ap (λ (s : SetupData). s.gauge.depth) c.setup.ensures.value in
    let above = ap (λ (s : SetupData). s.gauge.above) c.setup.ensures.value in
    same_box _ _
    (same_point _ _ (to_z-of_z r0) (omega (arith, ints, edge)) (omega (arith, ints, thickness, thick.bottom, thick.top, below, rule.below.bottom, rule.below.top)))
    (same_point _ _ (to_z-of_z r1) (omega (arith, ints, edge, depth, rule.depth.bottom, rule.depth.top)) (omega (arith, ints, above, rule.above.bottom, rule.above.top)))
