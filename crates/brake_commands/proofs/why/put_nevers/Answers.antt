use Rattle.std.proofs.Common.{add-one}
use Rattle.brake_commands.specs.WhyAnswer.{never_line}
use Rattle.brake_commands.proofs.NumberedLists.{gives_next}
use Rattle.brake_commands.proofs.why.put_nevers.Goals as goal

pub loop-i-preserved : goal.loop-i-preserved
loop-i-preserved c =
    rw add-one (gives_next never_line c.loop-i.i c.args.book.now.nogoods c.get.result c.args.out.now.items c.loop-i.out.items c.put_never.new.out.items c.get.ensures c.loop-i.invariant c.in_ok-put_never.ensures)
