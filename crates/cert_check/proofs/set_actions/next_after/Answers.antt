use Rattle.std.proofs.Common.{◌≡◌, ◌∙◌, arith, refl, sym, ap, subst}
use Rattle.brake_base.specs.declared.stroke.Key.{Key}
use Rattle.brake_base.specs.Masks.{union}
use Rattle.job_setup.specs.Setup.{JobData}
use Rattle.job_setup.specs.StrokeGroup.{group_of}
use Rattle.handling_cost.specs.StepCost.{IsKeyOf, attitude_at}
use Rattle.handling_cost.proofs.Keys.{next_in_range, some_stage}
use Rattle.cert_check.proofs.RowLemmas.{next_is}
use Rattle.cert_check.proofs.set_actions.next_after.Goals as goal

pub bound_at-bound-requires-clause-key : goal.bound_at-bound-requires-clause-key
bound_at-bound-requires-clause-key c =
    let job = c.args.job.now in
    let mask = c.args.mask in
    let action = c.args.action in
    let from : Key = record { mask = mask; attitude = 0; stage = 0 } in
    let some = some_stage job c.recall_valid.ensures in
    let ranged : IsKeyOf job from = record { mask = c.requires.mask; attitude = omega arith; stage = some } in
    let attitude : c.attitude-attitude.result ≡ attitude_at job mask action = c.attitude-attitude.ensures action.stage ∙ ap (λ (j : JobData). attitude_at j mask action) c.requires.facts in
    let masks : c.union.result ≡ union mask (group_of job mask action.bend) = c.union.ensures.value ∙ ap (union mask) c.group.ensures.value in
    subst (IsKeyOf job) (sym (next_is job from action c.union.result c.attitude-attitude.result masks attitude))
    (next_in_range job c.recall_valid.ensures from action ranged (record { first = c.requires.first; last = c.requires.last; stage = c.requires.stage; lead = c.requires.lead }))

pub returns : goal.returns
returns c =
    let job = c.args.job.now in
    let mask = c.args.mask in
    let action = c.args.action in
    record {
      lead = c.requires.lead;
      mask = c.union.ensures.value ∙ ap (union mask) c.group.ensures.value;
      attitude = c.attitude-attitude.ensures action.stage ∙ ap (λ (j : JobData). attitude_at j mask action) c.requires.facts;
      stage = refl;
      bound = c.bound_at-bound.ensures.value;
    }
