use Rattle.std.proofs.Common.{◌<◌, ◌∙◌, sym, arith, length}
use Rattle.job_setup.specs.Places.{heights, is_unequal}
use Rattle.job_setup.proofs.Lists.{stage_at}
use Rattle.job_setup.proofs.places.differs_from_first.Goals as goal

pub returns : goal.returns
returns c =
    let first : 0 < length c.args.stages.now = omega arith in
    let a = stage_at heights c.args.stages.now 0 c.index-stages-0.result first c.index-stages-0.is in
    let b = stage_at heights c.args.stages.now c.args.i c.index-stages-i.result c.requires c.index-stages-i.is in
    c.is_unequal.ensures ∙ (λ i. is_unequal (sym a i) (sym b i))
