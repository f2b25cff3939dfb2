use Rattle.std.proofs.Common.{◌≡◌, map, take}
use Rattle.brake_commands.specs.Attempts.{attempt_data}
use Rattle.brake_commands.specs.SetupsAnswer.{try_lines}
use Rattle.brake_commands.proofs.setups.try_lines.Given as goal

-- the lines of those so far
abbrev pub invariant-loop-place : goal.invariant-loop-place
invariant-loop-place l = l.out.items ≡ try_lines (take l.place (map attempt_data l.attempts))
