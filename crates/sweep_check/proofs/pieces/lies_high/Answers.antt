use Rattle.std.proofs.Common.{◌≡◌, ◌∙◌, ap, sym, pos, neg_ℤ, ◌-ℤ◌, int_le, to_z, of_z, to_z-of_z, FitsSigned, rules, w64, arith}
use Rattle.std.proofs.lemmas.Int.{ints}
use Rattle.brake_base.specs.declared.plane.Quarter.{Quarter}
use Rattle.part_file.specs.Part.{PartData}
use Rattle.job_setup.specs.Reasons.{lies_high}
use Rattle.sweep_check.proofs.pieces.lies_high.Goals as goal

pub returns-in-Q4 : goal.returns-in-Q4
returns-in-Q4 c =
    let t = c.args.job.now.part.thickness in
    let thick = c.part.ensures.valid.part.sheet.thickness.range in
    let same = ap (λ (p : PartData). p.thickness) c.part.ensures.value in
    let low : to_z w64 (of_z w64 (pos 0 -ℤ to_z w64 (of_z w64 c.part.result.now.thickness))) ≡ neg_ℤ t = omega (arith, ints, same, thick.bottom, thick.top) in
    let fits : FitsSigned w64 c.args.rect.now.z0 = search rules in
    let z0 = to_z-of_z fits in
    (λ i. int_le (low i) (z0 i)) ∙ ap (λ (q : Quarter). lies_high t q c.args.rect.now) (sym c.in-Q4.is)
