use Rattle.std.proofs.Common.{add-one}
use Rattle.job_setup.proofs.Lists.{all_at}
use Rattle.brake_commands.specs.Attempts.{attempt_data, IsKept}
use Rattle.brake_commands.specs.SetupsAnswer.{try_line}
use Rattle.brake_commands.proofs.NumberedLists.{placed_next}
use Rattle.brake_commands.proofs.setups.try_lines.Goals as goal

pub put_try-requires : goal.put_try-requires
put_try-requires c = all_at IsKept attempt_data c.args.attempts.now c.loop-place.place c.index-attempts-place.result c.requires.kept c.loop-place-test.true c.index-attempts-place.is

pub loop-place-preserved : goal.loop-place-preserved
loop-place-preserved c =
    rw add-one (placed_next try_line attempt_data c.loop-place.place c.args.attempts.now c.index-attempts-place.result c.loop-place.out.items c.put_try.new.out.items
    c.loop-place-test.true c.index-attempts-place.is c.loop-place.invariant c.in_ok-put_try.ensures)
