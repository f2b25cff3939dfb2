use Rattle.set_facts.proofs.Attitudes.{AreHeld}
use Rattle.set_facts.proofs.set_lanes.attitudes_before.Given as goal

abbrev pub invariant-loop-bend : goal.invariant-loop-bend
invariant-loop-bend l = AreHeld l.job l.mask l.bend l.attitudes
