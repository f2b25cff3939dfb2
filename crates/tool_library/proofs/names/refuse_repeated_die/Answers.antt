use Rattle.tool_library.proofs.Repeats.{die_names}
use Rattle.tool_library.proofs.names.refuse_repeated_die.Goals as goal

pub returns-clause-value : goal.returns-clause-value
returns-clause-value c = rw (die_names c.args.dies.now) c.refuse_repeat.ensures.value

pub returns-clause-distinct : goal.returns-clause-distinct
returns-clause-distinct c = rw (die_names c.args.dies.now) c.refuse_repeat.ensures.distinct
