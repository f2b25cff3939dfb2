use Rattle.std.proofs.Common.{◌≡◌, ◌∙◌, ℕ, ap, sym, subst, get_or, arith}
use Rattle.brake_base.specs.declared.mask.Mask.{Mask}
use Rattle.brake_base.specs.Masks.{union}
use Rattle.job_setup.specs.StrokeGroup.{group_of}
use Rattle.set_facts.specs.declared.set_lanes.SetLanes.{SetLanes}
use Rattle.set_facts.specs.LaneFacts.{IsSetLanes}
use Rattle.set_facts.proofs.SetLaneSteps.{after_within, after_is_greater}
use Rattle.set_facts.proofs.set_lanes.SetLanes.of.Goals as goal

pub bounds-sets-from : goal.bounds-sets-from
bounds-sets-from c =
    let job = c.args.job.now in
    let mask = c.args.mask in
    let bend = c.in-Some.bend in
    let after_is : c.union.result ≡ union mask (group_of job mask bend) = c.union.ensures.value ∙ ap (λ (g : Mask). union mask g) c.group-group.ensures.value in
    let place = c.from.ensures ∙ ap (λ (m : Mask). m.0) after_is in
    let within = after_within job c.in-Some.ensures.valid mask bend c.in-Some.ensures.some c.requires.mask in
    omega (arith, place, within, c.requires.greater.places)

pub before-requires-clause-after : goal.before-requires-clause-after
before-requires-clause-after c =
    let job = c.args.job.now in
    let mask = c.args.mask in
    let bend = c.in-Some.bend in
    let valid = c.in-Some.ensures.valid in
    let left = c.in-Some.ensures.some in
    let after = union mask (group_of job mask bend) in
    let set = c.index-sets-from.result in
    let after_is : c.union.result ≡ union mask (group_of job mask bend) = c.union.ensures.value ∙ ap (λ (g : Mask). union mask g) c.group-group.ensures.value in
    let place = c.from.ensures ∙ ap (λ (m : Mask). m.0) after_is in
    let read : get_or c.args.sets.now after.0 set ≡ set = sym (c.index-sets-from.is ∙ ap (λ (n : ℕ). get_or c.args.sets.now n set) place) in
    subst (λ (s : SetLanes). IsSetLanes job after s) read
    (c.requires.greater.each after set (after_is_greater job valid mask bend left c.requires.mask) (after_within job valid mask bend left c.requires.mask))
