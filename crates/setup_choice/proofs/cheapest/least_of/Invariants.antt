use Rattle.setup_choice.specs.Best.{IsCheapestOf}
use Rattle.setup_choice.proofs.cheapest.least_of.Given as goal

abbrev pub invariant-loop-place : goal.invariant-loop-place
invariant-loop-place l = IsCheapestOf l.tried l.place l.least
