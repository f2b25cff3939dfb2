use Rattle.std.proofs.Common.{to_z-of_z, FitsSigned, rules, sym, subst, ◌∙◌, w64}
use Rattle.brake_base.specs.declared.plane.Rect.{Rect}
use Rattle.sector_geom.specs.Pieces.{HoldsAll}
use Rattle.sector_geom.proofs.PieceLaws.{widened_holds, same_rect}
use Rattle.sector_geom.proofs.pieces.widened.Goals as goal

pub returns-clause-value : goal.returns-clause-value
returns-clause-value c =
    let r = c.args.r in
    let y0 : FitsSigned w64 r.y0 = search rules in
    let y1 : FitsSigned w64 r.y1 = search rules in
    let z0 : FitsSigned w64 r.z0 = search rules in
    let z1 : FitsSigned w64 r.z1 = search rules in
    let low : FitsSigned w64 c.lowered.result = search rules in
    let high : FitsSigned w64 c.raised.result = search rules in
    let el = simp (to_z-of_z y0, to_z-of_z c.ranges.by) at c.lowered.ensures.value in
    let er = simp (to_z-of_z y1, to_z-of_z c.ranges.by) at c.raised.ensures.value in
    same_rect _ _ _ _ _ _ _ _ (to_z-of_z low ∙ el) (to_z-of_z high ∙ er) (to_z-of_z z0) (to_z-of_z z1)

pub returns-clause-holds : goal.returns-clause-holds
returns-clause-holds c = subst (λ (w : Rect). HoldsAll w c.args.r) (sym (returns-clause-value c)) (widened_holds c.args.by c.args.r c.requires.not_negative)
