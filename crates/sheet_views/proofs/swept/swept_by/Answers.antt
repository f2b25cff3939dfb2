use Rattle.std.proofs.Common.{List, sym, subst, ◌∙◌}
use Rattle.std.specs.Prelude.{All}
use Rattle.job_setup.specs.declared.obstacle.Obstacle.{Obstacle}
use Rattle.handling_cost.proofs.Keys.{some_stage}
use Rattle.sheet_views.specs.Near.{IsNearArea}
use Rattle.sheet_views.proofs.NearSwept.{upper_near, lower_near}
use Rattle.sheet_views.proofs.swept.swept_by.Goals as goal

pub struck_obstacle-struck-requires : goal.struck_obstacle-struck-requires
struck_obstacle-struck-requires c =
    let job = c.args.job.now in
    let valid = c.upper_group.ensures.valid in
    record { near = subst (λ (os : List Obstacle). All (λ (o : Obstacle). IsNearArea o.rect) os) (sym (c.as_slice.ensures.value ∙ c.upper_group.ensures.value)) (upper_near job valid (some_stage job valid)) }

pub struck_obstacle-struck-requires-in-Lower : goal.struck_obstacle-struck-requires-in-Lower
struck_obstacle-struck-requires-in-Lower c =
    let job = c.args.job.now in
    record { near = subst (λ (os : List Obstacle). All (λ (o : Obstacle). IsNearArea o.rect) os) (sym (c.as_slice-in-Lower.ensures.value ∙ c.lower_group.ensures.value)) (lower_near job c.args.stage c.lower_group.ensures.valid c.requires.stage) }
