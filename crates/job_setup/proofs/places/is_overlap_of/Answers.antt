use Rattle.std.proofs.Common.{◌∙◌, sym}
use Rattle.job_setup.specs.Places.{range, is_overlap}
use Rattle.job_setup.proofs.Lists.{stage_at}
use Rattle.job_setup.proofs.places.is_overlap_of.Goals as goal

pub returns : goal.returns
returns c =
    let a = stage_at range c.args.stages.now c.args.a c.index-stages-a.result c.requires.a c.index-stages-a.is in
    let b = stage_at range c.args.stages.now c.args.b c.index-stages-b.result c.requires.b c.index-stages-b.is in
    c.is_overlap.ensures ∙ (λ i. is_overlap (sym a i) (sym b i))
