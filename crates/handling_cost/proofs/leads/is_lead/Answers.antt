use Rattle.std.proofs.Common.{◌∙◌, ap, sym, not, arith}
use Rattle.handling_cost.proofs.LeadTests.{open_lead, folded_no_lead}
use Rattle.handling_cost.proofs.leads.is_lead.Goals as goal

pub returns-then-not-contains : goal.returns-then-not-contains
returns-then-not-contains c =
    open_lead c.args.job.now c.args.mask c.args.bend c.requires.some (omega (arith, c.requires.bend)) (sym c.contains.ensures ∙ c.if-not-contains.true)
    c.group.result c.group.ensures.bends c.is_least.result c.is_least.ensures

pub returns-else-not-contains : goal.returns-else-not-contains
returns-else-not-contains c =
    ap not c.if-not-contains.false ∙ sym (folded_no_lead c.args.job.now c.args.mask c.args.bend (sym c.contains.ensures ∙ c.if-not-contains.false))
