use Rattle.plan_lines.proofs.NoteRuns.{no_lines}
use Rattle.plan_lines.proofs.note_lines.no_block.Goals as goal

pub returns : goal.returns
returns c = λ facts known. no_lines facts known c.empty.result 0 c.empty-2.result c.empty-2.ensures.value
