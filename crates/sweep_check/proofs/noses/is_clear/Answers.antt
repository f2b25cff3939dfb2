use Rattle.std.proofs.Common.{◌↔◌, ℤ, IsTrue, to_z-of_z, FitsSigned, rules, w64, subst}
use Rattle.sector_geom.specs.Clear.{IsClearOfNose}
use Rattle.sweep_check.proofs.noses.is_clear.Goals as goal

pub returns : goal.returns
returns c =
    let fits : FitsSigned w64 c.args.nose.now.size = search rules in
    subst (λ (n : ℤ). IsTrue c.clear_nose.result ↔ IsClearOfNose c.args.piece.now.cover n) (to_z-of_z fits) c.clear_nose.ensures.exact
