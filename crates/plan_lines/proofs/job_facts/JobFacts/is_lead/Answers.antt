use Rattle.std.proofs.Common.{ap, not, Bool, ◌∙◌, sym}
use Rattle.handling_cost.proofs.LeadTests.{folded_no_lead}
use Rattle.plan_lines.proofs.FactsKept.{unfolded_is}
use Rattle.plan_lines.proofs.job_facts.JobFacts.is_lead.Goals as goal

pub returns-then-not-contains : goal.returns-then-not-contains
returns-then-not-contains c = λ job kept.
    unfolded_is c.args.self.now job c.args.bend c.from.result c.args.folded (record { 0 = 0 }) c.without.result c.contains.result c.is_empty.result kept c.requires.some c.requires.bend c.from.ensures c.without.ensures c.contains.ensures c.is_empty.ensures.value c.if-not-contains.true

pub returns-else-not-contains : goal.returns-else-not-contains
returns-else-not-contains c = λ job kept. ap (λ (folded : Bool). not folded) c.if-not-contains.false ∙ sym (folded_no_lead job c.args.folded c.args.bend (sym c.contains.ensures ∙ c.if-not-contains.false))
