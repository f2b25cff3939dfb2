use Rattle.std.proofs.Common.{length}
use Rattle.command_runner.proofs.form.+are_of_kinds.Given as goal

-- how many kinds are left
abbrev pub decreases-are_of_kinds : goal.decreases-are_of_kinds
decreases-are_of_kinds l = length l.kinds.now
