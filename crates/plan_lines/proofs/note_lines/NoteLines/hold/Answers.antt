use Rattle.std.proofs.Common.{◌≡◌, ℕ, get_or, map, None, Some, arith, set, sym, subst, ap, ◌∙◌}
use Rattle.std.proofs.lemmas.List.Elements.{All-weaker}
use Rattle.brake_base.specs.Actions.{number_of_action}
use Rattle.plan_lines.specs.declared.note_run.NoteBlock.{NoteBlock}
use Rattle.plan_lines.specs.NoteLines.{KnownReasons, KnowsAtMost, IsHeld, IsBlock, known_reasons, reason_of}
use Rattle.plan_lines.proofs.NumberedActions.{one_kept}
use Rattle.plan_lines.proofs.PlanItems.{known_alike}
use Rattle.plan_lines.proofs.NoteRuns.{among, learned, lines_still, none_lost}
use Rattle.plan_lines.proofs.note_lines.NoteLines.hold.Goals as goal

pub action_number-number-requires-clause-action : goal.action_number-number-requires-clause-action
action_number-number-requires-clause-action c = among c.args.facts.now c.args.note.now 12 c.args.facts.now.stages c.requires.few.bends (omega arith) c.requires.known

pub invariant_of-self : goal.invariant_of-self
invariant_of-self c =
    let own = c.self.inside.facts in
    let facts = c.args.facts.now in
    let note = c.args.note.now in
    let held = c.self.inside.notes in
    let index = c.from-index.result in
    let same = c.is_of.ensures.0 c.if-is_of.true in
    let is : IsHeld own index note = record {
      known = known_alike facts.bends facts.stages own.bends own.stages note same.0 same.1 c.requires.known;
      at = ap (λ (stages : ℕ). number_of_action stages note.action) (sym same.1) ∙ sym c.action_number-number.ensures.value ∙ sym c.from-index.ensures;
    } in
    let free : get_or held index None ≡ None = ap (λ (n : ℕ). get_or held n None) c.from-index.ensures ∙ c.is_free.ensures.0 c.if-is_free.true in
    record {
      few = c.self.invariant.few;
      are_held = one_kept (IsHeld own) held index note is c.self.invariant.are_held;
      are_read = one_kept (IsHeld own) c.self.inside.read index note is c.self.invariant.are_read;
      are_leads = c.self.invariant.are_leads;
      are_blocks = All-weaker (IsBlock own (known_reasons own.stages held)) (IsBlock own (known_reasons own.stages (set held index (Some note))))
          (λ (block : NoteBlock). lines_still own own.stages (map reason_of held) (map reason_of (set held index (Some note))) block.leads 0 block.count block.least block.text.now block.notes (none_lost own.stages held index note free)) c.self.inside.blocks c.self.invariant.are_blocks;
    }

pub returns-then-is_free : goal.returns-then-is_free
returns-then-is_free c =
    let stages = c.self.inside.facts.stages in
    let held = c.self.inside.notes in
    let note = c.args.note.now in
    let new = known_reasons stages (set held c.from-index.result (Some note)) in
    subst (λ (k : KnownReasons). KnowsAtMost k (number_of_action c.args.facts.now.stages note.action) note.reason new) c.self.view_is
    (subst (λ (n : ℕ). KnowsAtMost (known_reasons stages held) n note.reason new) (c.from-index.ensures ∙ c.action_number-number.ensures.value) (learned stages held c.from-index.result note))
