use Rattle.std.proofs.Common.{length}
use Rattle.command_runner.proofs.form.+is_apart.Given as goal

-- how many kinds are left
abbrev pub decreases-is_apart : goal.decreases-is_apart
decreases-is_apart l = length l.kinds.now
