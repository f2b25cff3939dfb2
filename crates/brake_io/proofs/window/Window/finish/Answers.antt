use Rattle.std.proofs.Common.{rules}
use Rattle.brake_io.proofs.Parts.{reads_nothing, reads_more, nearer_end, whole_at_end, untold_at_failure, longer_at_last}
use Rattle.brake_io.proofs.window.Window.finish.Goals as goal

pub loop-self-init : goal.loop-self-init
loop-self-init g c = reads_nothing _

pub loop-self-smaller : goal.loop-self-smaller
loop-self-smaller g c = nearer_end c.loop-self.self c.pass_all.new.self c.read_once.new.self c.pass_all.ensures c.read_once.ensures.nearer

pub loop-self-preserved : goal.loop-self-preserved
loop-self-preserved g c = reads_more _ _ _ _ (search rules) c.loop-self.invariant c.pass_all.ensures c.read_once.ensures.goes_on

pub returns-in-Ended-clause-whole : goal.returns-in-Ended-clause-whole
returns-in-Ended-clause-whole g c = whole_at_end _ _ _ (search rules) c.progress.ensures.known c.loop-self.invariant

pub returns-in-Failed-clause-failed : goal.returns-in-Failed-clause-failed
returns-in-Failed-clause-failed g c = λ _. untold_at_failure _ _ _ (search rules) c.progress.ensures.known c.loop-self.invariant

pub returns-in-TooLong-clause-longer : goal.returns-in-TooLong-clause-longer
returns-in-TooLong-clause-longer g c = λ _. longer_at_last _ _ _ (search rules) c.progress.ensures.known c.loop-self.invariant
