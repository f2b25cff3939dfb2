use Rattle.std.proofs.Common.{◌≡◌, ◌∙◌, ◌+◌, ℕ, List, length, set, Option, None, slice_index_or, refl, sym, ap, arith, subst}
use Rattle.std.proofs.lemmas.List.{length-set}
use Rattle.brake_base.specs.declared.reason.Reason.{Reason}
use Rattle.cert_merge.specs.declared.settled_sets.NextKey.{NextKey}
use Rattle.cert_merge.specs.Settling.{proved_over}
use Rattle.cert_merge.proofs.SettledWorths.{IsFilled, IsNextAt, filled_none, filled_on, filled_same, next_at, noted_at, nexts_all, ready_all}
use Rattle.cert_merge.proofs.settled_sets.next_keys.Goals as goal
use Rattle.cert_merge.proofs.settled_sets.next_keys.Goals.{then-is_unnoted, else-is_unnoted}

pub loop-number-init : goal.loop-number-init
loop-number-init c = record {
  count = refl;
  filled = filled_none (IsNextAt c.args.job.now (proved_over c.args.job.now c.args.base.now c.args.settled.now) c.args.mask (λ action. slice_index_or c.args.reasons.now action None)) 144;
}

pub loop-number-preserved : goal.loop-number-preserved
loop-number-preserved c =
    let job = c.args.job.now in
    let number = c.loop-number.number in
    let nexts = c.loop-number.nexts in
    let count = c.loop-number.invariant.count in
    let less = c.loop-number-test.true in
    let few = c.action_count-number-end.ensures.few in
    let proved = proved_over job c.args.base.now c.args.settled.now in
    let reasons : ℕ → Option Reason = λ action. slice_index_or c.args.reasons.now action None in
    let P = IsNextAt job proved c.args.mask reasons in
    elim c.if-is_unnoted.branch [
      | then-is_unnoted w ↦
          let here = next_at job proved c.args.mask reasons number w.next_of.result (c.is_unnoted.ensures.0 w.if-is_unnoted.true) (let end = c.action_count-number-end.ensures.value in omega (arith, less, end)) w.next_of.ensures.next w.next_of.ensures.ready in
          let at : w.from.result ≡ number = w.from.ensures in
          record {
            count = ap (λ (xs : List (Option NextKey)). length xs) w.nexts-is ∙ (length-set nexts w.from.result w.next_of.result ∙ count);
            filled = subst (IsFilled P (number + 1)) (sym (w.nexts-is ∙ ap (λ (n : ℕ). set nexts n w.next_of.result) at)) (filled_on P number nexts w.next_of.result (omega (arith, count, less, few)) here c.loop-number.invariant.filled);
          }
      | else-is_unnoted w ↦
          record {
            count = ap (λ (xs : List (Option NextKey)). length xs) w.nexts-is ∙ count;
            filled = subst (IsFilled P (number + 1)) (sym w.nexts-is)
                (filled_same P number nexts (noted_at job proved c.args.mask reasons number (λ none. let yes = c.is_unnoted.ensures.1 none in let no = w.if-is_unnoted.false in cc)) c.loop-number.invariant.filled);
          }
    ]

pub returns-clause-next : goal.returns-clause-next
returns-clause-next c =
    nexts_all c.args.job.now (proved_over c.args.job.now c.args.base.now c.args.settled.now) c.args.mask (λ action. slice_index_or c.args.reasons.now action None) c.loop-number.number c.loop-number.nexts
    (let end = c.loop-number-test.false in let count = c.action_count-number-end.ensures.value in omega (arith, end, count)) c.loop-number.invariant.filled

pub returns-clause-ready : goal.returns-clause-ready
returns-clause-ready c =
    ready_all c.args.job.now (proved_over c.args.job.now c.args.base.now c.args.settled.now) c.args.mask (λ action. slice_index_or c.args.reasons.now action None) c.loop-number.number c.loop-number.nexts c.loop-number.invariant.filled
