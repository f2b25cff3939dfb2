use Rattle.std.proofs.Common.{◌≡◌, ◌∙◌, ap, to_z, of_z, w64, arith}
use Rattle.std.proofs.lemmas.Int.{ints}
use Rattle.job_setup.specs.Obstacles.{raised_box}
use Rattle.sheet_views.specs.Hazards.{body_of, overlaps}
use Rattle.sheet_views.proofs.hazards.is_met.Goals as goal

pub returns : goal.returns
returns c =
    let at = c.args.fixed.now in
    let by : to_z w64 (of_z w64 c.args.by) ≡ c.args.by = omega (arith, ints, c.requires.low, c.requires.high) in
    let x0 : to_z w64 (of_z w64 at.x0) ≡ at.x0 = omega (arith, ints) in
    let x1 : to_z w64 (of_z w64 at.x1) ≡ at.x1 = omega (arith, ints) in
    c.overlaps.ensures ∙ ap (overlaps c.args.finger.now) (c.raised_box.ensures ∙ (λ i. body_of (raised_box (by i) (record { x0 = x0 i; x1 = x1 i; rect = c.args.fixed.now.rect }))))
