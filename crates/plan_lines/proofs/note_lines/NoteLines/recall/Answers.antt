use Rattle.std.proofs.Common.{ℕ, sym, subst, ◌∙◌}
use Rattle.brake_base.specs.declared.reason.Reason.{Reason}
use Rattle.brake_base.specs.Actions.{number_of_action}
use Rattle.plan_lines.specs.NoteLines.{KnowsAtMost}
use Rattle.plan_lines.proofs.note_lines.NoteLines.recall.Goals as goal

pub hold-requires-clause-known : goal.hold-requires-clause-known
hold-requires-clause-known c = (c.self.invariant.are_read c.args.number c.in-Some.note (sym c.held_at.ensures ∙ c.in-Some.is)).known

pub returns-then-has_code-clause-some : goal.returns-then-has_code-clause-some
returns-then-has_code-clause-some c = λ reason coded code.
    let note = c.in-Some.note in
    let held = c.self.invariant.are_read c.args.number note (sym c.held_at.ensures ∙ c.in-Some.is) in
    subst (λ (n : ℕ). KnowsAtMost c.args.self.now n reason c.hold.new.self) held.at
    (subst (λ (r : Reason). KnowsAtMost c.args.self.now (number_of_action c.self.inside.facts.stages note.action) r c.hold.new.self) (c.has_code.ensures.some c.if-has_code.true reason coded code) c.hold.ensures)
