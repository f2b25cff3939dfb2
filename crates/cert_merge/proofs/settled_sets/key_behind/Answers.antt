use Rattle.std.proofs.Common.{◌≡◌, ◌^◌, ◌<◌, ◌≤◌, ◌∙◌, refl, sym, subst, ap, arith}
use Rattle.brake_base.specs.declared.mask.Mask.{Mask}
use Rattle.brake_base.specs.declared.stroke.Key.{Key}
use Rattle.brake_base.specs.Masks.{union}
use Rattle.job_setup.specs.Setup.{JobData, bend_count}
use Rattle.handling_cost.specs.StepCost.{IsKeyOf, attitude_at, key_after}
use Rattle.handling_cost.proofs.Keys.{some_stage, next_in_range}
use Rattle.cert_merge.proofs.settled_sets.key_behind.Goals as goal

-- the key of the mask at its first place
abbrev first_key : Mask → Key
first_key mask = record { mask = mask; attitude = 0; stage = 0 }

pub group-requires-clause-some : goal.group-requires-clause-some
group-requires-clause-some c = let first = (c.requires.action (first_key c.args.mask) refl).first in omega (arith, first)

pub group-requires-clause-bend : goal.group-requires-clause-bend
group-requires-clause-bend c = let at = c.requires.action (first_key c.args.mask) refl in let first = at.first in let last = at.last in omega (arith, first, last)

pub attitude-requires-clause-mask : goal.attitude-requires-clause-mask
attitude-requires-clause-mask c = subst (λ (j : JobData). c.args.mask.0 < 2 ^ bend_count j) c.requires.facts c.requires.mask

pub attitude-requires-clause-first : goal.attitude-requires-clause-first
attitude-requires-clause-first c = (c.requires.action (first_key c.args.mask) refl).first

pub attitude-requires-clause-last : goal.attitude-requires-clause-last
attitude-requires-clause-last c = subst (λ (j : JobData). c.args.action.bend ≤ bend_count j) c.requires.facts (c.requires.action (first_key c.args.mask) refl).last

pub returns-clause-key : goal.returns-clause-key
unfolding key_after
returns-clause-key c = λ key same.
    let folded = c.union.ensures.value ∙ ap (λ (m : Mask). union c.args.mask m) c.group.ensures.value in
    let held = c.attitude.ensures c.args.action.stage ∙ ap (λ (j : JobData). attitude_at j c.args.mask c.args.action) (sym c.requires.facts) in
    subst (λ (m : Mask). record { mask = c.union.result; attitude = c.attitude.result; stage = c.args.action.stage } ≡ key_after c.args.job.now (record { mask = m; attitude = key.attitude; stage = key.stage }) c.args.action) (sym same)
    (λ i. record { mask = folded i; attitude = held i; stage = c.args.action.stage })

pub returns-clause-range : goal.returns-clause-range
returns-clause-range c =
    let job = c.args.job.now in
    let first = first_key c.args.mask in
    subst (IsKeyOf job) (sym (returns-clause-key c first refl))
    (next_in_range job c.recall_valid.ensures first c.args.action (record { mask = c.requires.mask; attitude = omega arith; stage = some_stage job c.recall_valid.ensures }) (c.requires.action first refl))
