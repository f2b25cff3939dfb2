use Rattle.brake_base.specs.Turns.{apply, multiply}
use Rattle.unfolder.proofs.frame.quarter_turns_of.Goals as goal

pub returns-in-E-clause-value : goal.returns-in-E-clause-value
unfolding apply multiply
returns-in-E-clause-value c = rw c.in-E.is

pub returns-in-S-clause-value : goal.returns-in-S-clause-value
unfolding apply multiply
returns-in-S-clause-value c = rw c.in-S.is

pub returns-in-W-clause-value : goal.returns-in-W-clause-value
unfolding apply multiply
returns-in-W-clause-value c = rw c.in-W.is
