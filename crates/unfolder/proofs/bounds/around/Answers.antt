use Rattle.std.proofs.Common.{rules, ◌≡◌, to_z, of_z, w64, SFits}
use Rattle.std.proofs.lemmas.Int.{to_z-of_z}
use Rattle.std.specs.Int.{int_min, int_max}
use Rattle.unfolder.proofs.Signed.{stored}
use Rattle.unfolder.proofs.bounds.around.Goals as goal

pub returns : goal.returns
returns c =
    let a_x0 : SFits w64 c.args.a.now.x0 = search rules in
    let b_x0 : SFits w64 c.args.b.now.x0 = search rules in
    let a_x1 : SFits w64 c.args.a.now.x1 = search rules in
    let b_x1 : SFits w64 c.args.b.now.x1 = search rules in
    let a_y0 : SFits w64 c.args.a.now.y0 = search rules in
    let b_y0 : SFits w64 c.args.b.now.y0 = search rules in
    let a_y1 : SFits w64 c.args.a.now.y1 = search rules in
    let b_y1 : SFits w64 c.args.b.now.y1 = search rules in
    let fits_x0 : SFits w64 c.min.result = search rules in
    let x0 : to_z w64 (of_z w64 c.min.result) ≡ int_min c.args.a.now.x0 c.args.b.now.x0 = stored _ _ fits_x0 (simp to_z-of_z at c.min.ensures.value) in
    let fits_x1 : SFits w64 c.max.result = search rules in
    let x1 : to_z w64 (of_z w64 c.max.result) ≡ int_max c.args.a.now.x1 c.args.b.now.x1 = stored _ _ fits_x1 (simp to_z-of_z at c.max.ensures.value) in
    let fits_y0 : SFits w64 c.min-2.result = search rules in
    let y0 : to_z w64 (of_z w64 c.min-2.result) ≡ int_min c.args.a.now.y0 c.args.b.now.y0 = stored _ _ fits_y0 (simp to_z-of_z at c.min-2.ensures.value) in
    let fits_y1 : SFits w64 c.max-2.result = search rules in
    let y1 : to_z w64 (of_z w64 c.max-2.result) ≡ int_max c.args.a.now.y1 c.args.b.now.y1 = stored _ _ fits_y1 (simp to_z-of_z at c.max-2.ensures.value) in
    λ i. record { x0 = x0 i; x1 = x1 i; y0 = y0 i; y1 = y1 i }
