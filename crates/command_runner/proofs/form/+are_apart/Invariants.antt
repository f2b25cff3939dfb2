use Rattle.std.proofs.Common.{length}
use Rattle.command_runner.proofs.form.+are_apart.Given as goal

-- how many kinds are left
abbrev pub decreases-are_apart : goal.decreases-are_apart
decreases-are_apart l = length l.some_kinds.now
