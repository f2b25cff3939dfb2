use Rattle.std.proofs.Common.{◌≤◌, ◌^◌, ℤ, unsigned_abs, to_z-of_z, FitsSigned, w64, rules, subst, sym}
use Rattle.sheet_figures.proofs.DrawnPoints.{right_small}
use Rattle.sheet_figures.proofs.bodies.drawn_right.Goals as goal

pub returns-clause-near : goal.returns-clause-near
returns-clause-near c =
    let near = subst (λ (r : ℤ × ℤ). unsigned_abs r.0 ≤ 2 ^ 48) (sym c.drawn.ensures.value) (right_small c.args.point c.requires) in
    let fits : FitsSigned w64 c.drawn.result.0 = search rules in
    simp (to_z-of_z fits) near
