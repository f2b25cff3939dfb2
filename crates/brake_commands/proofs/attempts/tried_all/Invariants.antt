use Rattle.std.proofs.Common.{◌≡◌, map, take}
use Rattle.brake_commands.specs.Attempts.{attempt_data, tried_all}
use Rattle.brake_commands.proofs.attempts.tried_all.Given as goal

-- how those so far did
abbrev pub invariant-loop-attempt : goal.invariant-loop-attempt
invariant-loop-attempt l = l.tried.items ≡ tried_all (map attempt_data (take l.attempt-index l.attempts))
