use Rattle.set_facts.proofs.Leads.{HasLeadsBelow}
use Rattle.set_facts.proofs.facts.leads_of.Given as goal

abbrev pub invariant-loop-bend : goal.invariant-loop-bend
invariant-loop-bend l = HasLeadsBelow l.job l.mask l.bend l.leads
