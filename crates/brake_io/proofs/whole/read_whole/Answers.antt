use Rattle.std.proofs.Common.{arith, ◌≤◌, ◌+◌, ◌++◌, length, take}
use Rattle.std.proofs.KnownBytes.{Consumes-trans}
use Rattle.std.proofs.lemmas.Grind.{common_steps}
use Rattle.brake_io.proofs.whole.read_whole.Goals as goal

-- what was read is taken, though the list didn't grow by it
pub returns-in_err-extend_from_slice-in-Ok-clause-taken :
    goal.returns-in_err-extend_from_slice-in-Ok-clause-taken
returns-in_err-extend_from_slice-in-Ok-clause-taken g c =
    let (within, consumed) = c.loop-wanted.invariant in
    let piece = take c.in-Ok.n c.read.new.buf in
    let taken = c.loop-wanted.bytes.items ++ piece in
    let fits : length taken ≤ c.args.limit + 1 = grind (arith, common_steps) in
    (taken, fits, Consumes-trans _ _ _ _ _ consumed c.in-Ok.ensures.bytes.0)
