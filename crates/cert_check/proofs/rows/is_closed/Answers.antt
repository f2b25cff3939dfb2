use Rattle.std.proofs.Common.{◌≡◌, ◌∙◌, ◌<◌, ℕ, arith, sym, ap, subst}
use Rattle.brake_base.specs.declared.stroke.Key.{Key}
use Rattle.job_setup.specs.Setup.{JobData, stage_count}
use Rattle.handling_cost.specs.StepCost.{IsKeyOf, cost_of, cost_to, attitude_at}
use Rattle.handling_cost.specs.Bound.{bound_of}
use Rattle.handling_cost.proofs.Keys.{next_in_range}
use Rattle.handling_cost.proofs.Small.{bound_small}
use Rattle.cert_lines.specs.Lines.{action_at}
use Rattle.cert_check.specs.Rows.{ProvesAfter}
use Rattle.cert_check.proofs.RowLemmas.{row_key}
use Rattle.plan_lines.proofs.NumberedActions.{tried_at}
use Rattle.cert_check.proofs.ActionLemmas.{next_key_is}
use Rattle.cert_check.proofs.rows.is_closed.Goals as goal

pub cost_to-cost-requires-clause-to : goal.cost_to-cost-requires-clause-to
cost_to-cost-requires-clause-to c =
    let job = c.args.job.now in
    let next = c.requires.next in
    subst (λ (stage : ℕ). stage < stage_count job) (sym next.stage) (tried_at job c.args.head.now.key c.args.number c.requires.number next.lead).stage

pub is_proved_with-requires-clause-key : goal.is_proved_with-requires-clause-key
is_proved_with-requires-clause-key c =
    let job = c.args.job.now in
    let head = c.args.head.now in
    let next = c.requires.next in
    let action = action_at (stage_count job) c.args.number in
    let key = next_key_is job head.key action c.args.next.now next in
    subst (λ (j : JobData). IsKeyOf j c.args.next.now.key) (sym c.requires.rows)
    (subst (IsKeyOf job) (sym key) (next_in_range job c.recall_valid.ensures head.key action (row_key job head c.requires.head) (tried_at job head.key c.args.number c.requires.number next.lead)))

pub is_proved_with-requires-clause-bound : goal.is_proved_with-requires-clause-bound
is_proved_with-requires-clause-bound c = c.requires.next.bound ∙ ap (λ (j : JobData). bound_of j c.args.next.now.key) (sym c.requires.rows)

pub is_proved_with-requires-clause-small : goal.is_proved_with-requires-clause-small
is_proved_with-requires-clause-small c =
    let job = c.args.job.now in
    let head = c.args.head.now in
    let next = c.requires.next in
    let action = action_at (stage_count job) c.args.number in
    let key = next_key_is job head.key action c.args.next.now next in
    let ranged : IsKeyOf job c.args.next.now.key =
    subst (IsKeyOf job) (sym key) (next_in_range job c.recall_valid.ensures head.key action (row_key job head c.requires.head) (tried_at job head.key c.args.number c.requires.number next.lead)) in
    let small = bound_small job c.recall_valid.ensures c.args.next.now.key ranged in
    let bound = next.bound in
    omega (arith, small, bound)

pub returns : goal.returns
returns c =
    let job = c.args.job.now in
    let rows = c.args.rows.now.rows in
    let head = c.args.head.now in
    let next = c.requires.next in
    let made = c.args.next.now.key in
    let action = action_at (stage_count job) c.args.number in
    let key = next_key_is job head.key action c.args.next.now next in
    let cost : c.cost_to-cost.result ≡ cost_of job head.key action =
    c.cost_to-cost.ensures.value ∙ (ap (λ (attitude : ℕ). cost_to job head.key attitude made.stage) next.attitude ∙ ap (λ (stage : ℕ). cost_to job head.key (attitude_at job head.key.mask action) stage) next.stage) in (
      (λ yes. subst (λ (k : Key). ProvesAfter job rows k (cost_of job head.key action) head.worth) key
          (subst (λ (n : ℕ). ProvesAfter job rows made n head.worth) cost
          (subst (λ (j : JobData). ProvesAfter j rows made c.cost_to-cost.result head.worth) c.requires.rows (c.is_proved_with.ensures.0 yes)))),
      λ closed. c.is_proved_with.ensures.1
          (subst (λ (j : JobData). ProvesAfter j rows made c.cost_to-cost.result head.worth) (sym c.requires.rows)
          (subst (λ (n : ℕ). ProvesAfter job rows made n head.worth) (sym cost)
          (subst (λ (k : Key). ProvesAfter job rows k (cost_of job head.key action) head.worth) (sym key) closed))),
    )
