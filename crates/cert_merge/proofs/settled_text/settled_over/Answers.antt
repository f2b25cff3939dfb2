use Rattle.std.proofs.Common.{◌∙◌, ◌+◌, ◌-◌, ◌*◌, ◌≤◌, ℕ, List, length, sym, subst, ap}
use Rattle.brake_base.specs.declared.stroke.Key.{Key}
use Rattle.handling_cost.specs.StepCost.{IsKeyOf}
use Rattle.handling_cost.proofs.Keys.{start_in_range}
use Rattle.cert_lines.specs.declared.row_head.RowHead.{RowHead}
use Rattle.plan_cert.specs.WellFormed.{AreRowsOf}
use Rattle.cert_merge.specs.SettledPieces.{IsWholeText}
use Rattle.cert_merge.specs.Settling.{proved_over}
use Rattle.cert_merge.proofs.SettledOver.{few_inside, over_told}
use Rattle.cert_merge.proofs.TableChecking.{table_rows}
use Rattle.cert_merge.proofs.settled_text.settled_over.Goals as goal

pub settle_sets-requires-clause-base : goal.settle_sets-requires-clause-base
settle_sets-requires-clause-base c =
    let base = c.requires.base in
    subst (AreRowsOf c.args.job.now) (sym (c.as_slice-heads.ensures.value ∙ base.3.heads_are)) (table_rows c.args.job.now base.0 base.1)

pub proved_over-at_start-requires-clause-base : goal.proved_over-at_start-requires-clause-base
proved_over-at_start-requires-clause-base c =
    let base = c.requires.base in
    subst (AreRowsOf c.args.job.now) (sym (c.as_slice-heads.ensures.value ∙ base.3.heads_are)) (table_rows c.args.job.now base.0 base.1)

pub proved_over-at_start-requires-clause-key : goal.proved_over-at_start-requires-clause-key
proved_over-at_start-requires-clause-key c = subst (IsKeyOf c.args.job.now) (sym c.start_key.ensures) (start_in_range c.args.job.now c.recall_valid.ensures)

pub open-requires-2-clause-settled : goal.open-requires-2-clause-settled
open-requires-2-clause-settled c = (proved_over c.args.job.now c.as_slice-heads.result.now c.in_ok-settled.settled, c.in_ok-settled.ensures.settled)

pub overflow_sub-result : goal.overflow_sub-result
overflow_sub-result c =
    let base = c.requires.base in
    let few = few_inside c.args.job.now base.0 c.args.low c.args.high c.args.base.now base.3 in
    subst (λ (hs : List RowHead). c.args.base.now.inside ≤ length hs) (sym c.as_slice-heads.ensures.value) few

pub returns : goal.returns
returns c = λ table is closed cut.
    let job = c.args.job.now in
    let settled = c.in_ok-settled.settled in
    let has = c.in_ok-settled.ensures.range in
    over_told job table c.args.low c.args.high settled c.requires.range is closed has c.as_slice-heads.result.now (c.as_slice-heads.ensures.value ∙ cut.heads_are) c.in_ok-settled.ensures.settled c.args.base.now cut
    (record {
      text = c.in_ok-text.text;
      rows = c.row_count.result + (length c.as_slice-heads.result.now - c.args.base.now.inside);
      at_start = c.proved_over-at_start.result;
    })
    (subst (λ (high : ℕ). IsWholeText job c.args.low high settled c.args.base.now.before.now c.args.base.now.behind.now c.in_ok-text.text) has.top c.in_ok-text.ensures)
    (ap (λ (n : ℕ). n + (length c.as_slice-heads.result.now - c.args.base.now.inside)) (c.row_count.ensures ∙ ap (λ (n : ℕ). (c.args.high + 1 - c.args.low) * (24 * n)) c.stages.ensures.value))
    (c.proved_over-at_start.ensures.value ∙ ap (λ (k : Key). proved_over job c.as_slice-heads.result.now settled k) c.start_key.ensures) c.proved_over-at_start.ensures.small
