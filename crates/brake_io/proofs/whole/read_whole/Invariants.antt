use Rattle.std.proofs.Common.{◌≤◌, ◌-◌, vec_len}
use Rattle.std.specs.Io.KnownBytes.{Consumes}
use Rattle.brake_io.proofs.whole.read_whole.Given as goal

-- what was taken is what the list holds
abbrev pub invariant-loop-wanted : goal.invariant-loop-wanted
invariant-loop-wanted g l = (vec_len l.bytes ≤ l.limit) × Consumes (g.F.Read.remaining l.initial.from) (g.F.Read.remaining l.from) l.bytes.items

-- how many bytes may still be taken
abbrev pub decreases-loop-wanted : goal.decreases-loop-wanted
decreases-loop-wanted g l = l.limit - vec_len l.bytes
