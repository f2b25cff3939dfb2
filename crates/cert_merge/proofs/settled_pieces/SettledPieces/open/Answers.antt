use Rattle.std.proofs.Common.{◌+◌, ◌*◌, ℕ, ap, sym, subst}
use Rattle.cert_merge.specs.SetRows.{CanBeWritten}
use Rattle.cert_merge.proofs.SetNotes.{can_be_written}
use Rattle.cert_merge.proofs.PieceTexts.{can_go_on, opened_whole}
use Rattle.cert_merge.proofs.settled_pieces.SettledPieces.open.Goals as goal

pub open-requires-clause-writable : goal.open-requires-clause-writable
open-requires-clause-writable c =
    let settled = c.args.settled in
    let are = c.requires.settled in
    subst (λ (n : ℕ). CanBeWritten n settled) (sym c.stages-stages.ensures.value) (can_be_written c.args.job.now c.recall_valid.ensures c.args.low settled.high settled c.requires.range c.requires.open are.0 are.1)

pub invariant_of-result : goal.invariant_of-result
invariant_of-result c =
    let are = c.requires.settled in
    let next = ap (λ (n : ℕ). n * 144) c.from-2.ensures in
    let end = ap (λ (n : ℕ). (n + 1) * 144) c.from.ensures in
    can_go_on c.args.job.now c.recall_valid.ensures c.args.low c.args.settled.high c.args.settled c.requires.range c.requires.order c.requires.open are.0 are.1 c.stages-stages.result (c.from-2.result * 144) ((c.from.result + 1) * 144) c.in_ok-writer.writer
    c.stages-stages.ensures.value next end (subst (λ (n : ℕ). CanBeWritten n c.args.settled) (sym c.stages-stages.ensures.value) (can_be_written c.args.job.now c.recall_valid.ensures c.args.low c.args.settled.high c.args.settled c.requires.range c.requires.open are.0 are.1))
    c.in_ok-writer.ensures

pub returns : goal.returns
returns c =
    let are = c.requires.settled in
    let next = ap (λ (n : ℕ). n * 144) c.from-2.ensures in
    let end = ap (λ (n : ℕ). (n + 1) * 144) c.from.ensures in
    opened_whole c.args.job.now c.recall_valid.ensures c.args.low c.args.settled.high c.args.settled c.requires.range c.requires.order c.requires.open are.0 are.1 c.in_ok-beginning.beginning.items c.args.base.now.before.now c.args.base.now.behind.now c.stages-stages.result (c.from-2.result * 144) ((c.from.result + 1) * 144)
    c.in_ok-beginning.ensures c.stages-stages.ensures.value next end
