use Rattle.brake_io.proofs.Parts.{goes_nowhere, goes_further}
use Rattle.brake_io.proofs.window.Window.fill.Goals as goal

pub loop-self-init : goal.loop-self-init
loop-self-init g c = goes_nowhere _

pub loop-self-preserved : goal.loop-self-preserved
loop-self-preserved g c = goes_further _ _ _ c.loop-self.invariant c.read_once.ensures.goes_on
