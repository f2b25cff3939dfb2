use Rattle.std.proofs.Common.{inl, inr, to_z-of_z, FitsSigned, rules}
use mir.Syntax.{w128}
use Rattle.algebra.proofs.Widths.{le_iff}
use Rattle.sector_geom.proofs.Radii.{beyond, within}
use Rattle.sector_geom.proofs.clearance.is_out_of_reach.Goals as goal

pub returns-then-nearest2-s : goal.returns-then-nearest2-s
returns-then-nearest2-s c =
    let s = c.args.s.now in
    let f : FitsSigned w128 s.far2 = search rules in
    let g : FitsSigned w128 c.nearest2.result = search rules in
    let t = simp (to_z-of_z f, to_z-of_z g) at c.if-nearest2-s.true in
    record { sound = λ _. inl (beyond s c.args.r.now c.nearest2.result c.nearest2.ensures.bound ((le_iff s.far2 c.nearest2.result).0 t)) }

pub returns-else-nearest2-s : goal.returns-else-nearest2-s
returns-else-nearest2-s c =
    let s = c.args.s.now in
    let f : FitsSigned w128 s.near2 = search rules in
    let g : FitsSigned w128 c.farthest2.result = search rules in
    record { sound = λ t. inr (within s c.args.r.now c.farthest2.result c.farthest2.ensures.bound ((le_iff c.farthest2.result s.near2).0 (simp (to_z-of_z f, to_z-of_z g) at t))) }
