use Rattle.std.proofs.Common.{ℕ, ◌≡◌, arith, sym, subst}
use Rattle.brake_base.specs.declared.stroke.Action.{Action}
use Rattle.brake_base.specs.Actions.{IsActionAmong}
use Rattle.handling_cost.proofs.Actions.{few_bends}
use Rattle.cert_lines.specs.Lines.{action_at}
use Rattle.cert_check.proofs.RecallLemmas.{IsCodeFor, knows_again, at_number}
use Rattle.cert_check.proofs.row_notes.RowNotes.recall_lines.Goals as goal

pub loop-stage-preserved : goal.loop-stage-preserved
loop-stage-preserved c =
    let job = c.args.job.now in
    let notes = c.args.self.now in
    let stage = c.loop-stage.stage in
    let stages = c.stages-stages.result in
    let number = c.action_number-number.result in
    let action : Action = record c.args.action { stage = stage } in
    let few = few_bends job c.recall_valid.ensures in
    let last = c.requires.last in
    let test = c.loop-stage-test.true in
    let count = c.stages-stages.ensures.value in
    let among : IsActionAmong 12 stages action = record { first = c.requires.first; last = omega (arith, few, last); stage = test } in
    let at = subst (λ (n : ℕ). action ≡ action_at n number) count (at_number stages number action among c.action_number-number.ensures.value c.action_number-number.ensures.below) in
    let code = subst (IsCodeFor job notes.folded.mask action) (sym c.code.ensures) (c.requires.codes.each stage (omega (arith, test, count))) in
    knows_again job notes c.loop-stage.lines c.recall.new.self action number c.code.result at code c.recall.ensures.some c.recall.ensures.none c.loop-stage.invariant
