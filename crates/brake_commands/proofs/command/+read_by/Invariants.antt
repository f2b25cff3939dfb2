use Rattle.std.proofs.Common.{length}
use Rattle.brake_commands.proofs.command.+read_by.Given as goal

-- how many forms are left
abbrev pub decreases-read_by : goal.decreases-read_by
decreases-read_by l = length l.forms.now
