use Rattle.tool_library.proofs.Repeats.{punch_names}
use Rattle.tool_library.proofs.names.refuse_repeated_punch.Goals as goal

pub returns-clause-value : goal.returns-clause-value
returns-clause-value c = rw (punch_names c.args.punches.now) c.refuse_repeat.ensures.value

pub returns-clause-distinct : goal.returns-clause-distinct
returns-clause-distinct c = rw (punch_names c.args.punches.now) c.refuse_repeat.ensures.distinct
