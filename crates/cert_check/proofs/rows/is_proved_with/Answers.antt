use Rattle.std.proofs.Common.{◌+◌, ℕ, refl, sym, subst}
use Rattle.brake_base.specs.declared.stroke.Worth.TheVariants.{Cost}
use Rattle.handling_cost.specs.Bound.{bound_of}
use Rattle.brake_base.specs.Worths.{IsAtMost}
use Rattle.cert_check.proofs.RowLemmas.{proved_by_bound, proved_by_row, not_proved_by_row, not_proved_by_none, true_unless}
use Rattle.cert_check.proofs.rows.is_proved_with.Goals as goal

pub returns-then-is_at_most : goal.returns-then-is_at_most
returns-then-is_at_most c = (
  (λ yes. proved_by_bound c.args.rows.now.job c.args.rows.now.rows c.args.key.now c.args.cost c.args.worth
      (subst (λ (bound : ℕ). IsAtMost c.args.worth (Cost (c.args.cost + bound))) c.requires.bound (c.is_at_most.ensures.0 c.if-is_at_most.true))),
  λ proves. refl,
)

pub returns-in-Some : goal.returns-in-Some
returns-in-Some c =
    let low : IsAtMost c.args.worth (Cost (c.args.cost + bound_of c.args.rows.now.job c.args.key.now)) → ⊥ = λ enough.
    let yes = c.is_at_most.ensures.1 (subst (λ (bound : ℕ). IsAtMost c.args.worth (Cost (c.args.cost + bound))) (sym c.requires.bound) enough) in
    let fails = c.if-is_at_most.false in
    cc in (
      (λ yes. proved_by_row c.args.rows.now.job c.args.rows.now.rows c.args.key.now c.args.cost c.args.worth c.in-Some.next c.in-Some.ensures
          (subst (IsAtMost c.args.worth) c.after_cost.ensures (c.is_at_most-in-Some.ensures.0 yes))),
      λ proves. true_unless c.is_at_most-in-Some.result (λ fails.
          not_proved_by_row c.args.rows.now.job c.args.rows.now.rows c.args.key.now c.args.cost c.args.worth c.in-Some.next low c.in-Some.ensures
          (λ enough. let yes = c.is_at_most-in-Some.ensures.1 (subst (IsAtMost c.args.worth) (sym c.after_cost.ensures) enough) in cc) proves),
    )

pub returns-in-None : goal.returns-in-None
returns-in-None c =
    let low : IsAtMost c.args.worth (Cost (c.args.cost + bound_of c.args.rows.now.job c.args.key.now)) → ⊥ = λ enough.
    let yes = c.is_at_most.ensures.1 (subst (λ (bound : ℕ). IsAtMost c.args.worth (Cost (c.args.cost + bound))) (sym c.requires.bound) enough) in
    let fails = c.if-is_at_most.false in
    cc in (
      (λ yes. absurd cc),
      λ proves. absurd (not_proved_by_none c.args.rows.now.job c.args.rows.now.rows c.args.key.now c.args.cost c.args.worth low c.in-None.ensures proves),
    )
