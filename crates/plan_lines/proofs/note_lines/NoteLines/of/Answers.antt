use Rattle.std.proofs.lemmas.List.Elements.{All-replicate}
use Rattle.plan_lines.specs.NoteLines.{IsBlock, IsHeld}
use Rattle.plan_lines.proofs.NumberedActions.{none_kept}
use Rattle.plan_lines.proofs.NoteRuns.{none_by}
use Rattle.plan_lines.proofs.note_lines.NoteLines.of.Goals as goal

pub invariant_of-result : goal.invariant_of-result
invariant_of-result c = record {
  few = c.requires;
  are_held = none_kept (IsHeld c.args.facts) 144;
  are_read = none_kept (IsHeld c.args.facts) 144;
  are_leads = c.none.ensures c.args.facts;
  are_blocks = All-replicate (IsBlock c.args.facts _) 8 c.no_block.result (c.no_block.ensures c.args.facts _);
}

pub returns-clause-none : goal.returns-clause-none
returns-clause-none c = λ number. none_by 144 number
