use Rattle.std.proofs.Common.{◌≡◌, ◌++◌, take}
use Rattle.std.specs.List.{flat_map}
use Rattle.brake_commands.specs.WhyAnswer.{never_line}
use Rattle.brake_commands.proofs.why.put_nevers.Given as goal

-- the lines so far
abbrev pub invariant-loop-i : goal.invariant-loop-i
invariant-loop-i l = l.out.items ≡ l.initial.out.items ++ flat_map never_line (take l.i l.book.nogoods)
