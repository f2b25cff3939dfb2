use Rattle.std.proofs.lemmas.List.Elements.{All-replicate}
use Rattle.plan_lines.specs.NoteLines.{IsBlock, IsHeld}
use Rattle.plan_lines.proofs.NumberedActions.{none_kept}
use Rattle.plan_lines.proofs.NoteRuns.{none_by}
use Rattle.plan_lines.proofs.note_lines.NoteLines.forget.Goals as goal

pub invariant_of-self : goal.invariant_of-self
invariant_of-self c = record {
  few = c.self.invariant.few;
  are_held = none_kept (IsHeld c.self.inside.facts) 144;
  are_read = c.self.invariant.are_read;
  are_leads = c.self.invariant.are_leads;
  are_blocks = All-replicate (IsBlock c.self.inside.facts _) 8 c.no_block-self-inside.result (c.no_block-self-inside.ensures c.self.inside.facts _);
}

pub returns-clause-none : goal.returns-clause-none
returns-clause-none c = λ number. none_by 144 number
