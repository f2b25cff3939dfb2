use Rattle.std.proofs.Common.{[], refl}
use Rattle.plan_lines.proofs.NoteRuns.{no_lines}
use Rattle.plan_lines.proofs.note_lines.no_run.Goals as goal

pub returns : goal.returns
returns c = λ facts known leads. record { front = []; is_text = refl; are = no_lines facts known leads c.args.least c.empty.result c.empty.ensures.value }
