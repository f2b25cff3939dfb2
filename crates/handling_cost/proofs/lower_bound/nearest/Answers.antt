use Rattle.std.proofs.Common.{◌≡◌, ◌∙◌, ℕ, Bool, sym}
use Rattle.brake_base.specs.Masks.{has}
use Rattle.job_setup.specs.StrokeGroup.{in_group}
use Rattle.job_setup.specs.StageOf.{stage_of}
use Rattle.job_setup.specs.Reasons.{meets}
use Rattle.job_setup.specs.Setup.{stage_count}
use Rattle.handling_cost.proofs.Ways.{nearest_itself}
use Rattle.handling_cost.proofs.lower_bound.nearest.Goals as goal

pub returns-then-meets_at : goal.returns-then-meets_at
returns-then-meets_at c =
    let meets_here : ℕ → Bool = λ stage. meets c.args.job.now (in_group c.args.job.now (has c.args.mask) c.args.bend) (stage_of c.args.job.now stage) in
    sym (nearest_itself meets_here (stage_count c.args.job.now) c.args.from c.requires.from (sym c.meets_at.ensures ∙ c.if-meets_at.true))
