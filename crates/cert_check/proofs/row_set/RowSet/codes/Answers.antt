use Rattle.std.proofs.Common.{sym, ◌∙◌}
use Rattle.handling_cost.proofs.Actions.{lead_is}
use Rattle.cert_check.proofs.row_set.RowSet.codes.Goals as goal

pub codes-requires-clause-flat : goal.codes-requires-clause-flat
codes-requires-clause-flat c =
    let action = c.args.action in
    (lead_is c.args.job.now c.args.self.now.mask action.bend (c.requires.leads.only action.bend c.requires.first c.requires.last (sym c.contains.ensures ∙ c.if-contains.true)).1).flat

pub returns-else-contains-clause-some : goal.returns-else-contains-clause-some
returns-else-contains-clause-some c = λ mask lead.
    let own = c.requires.leads.all mask c.args.action.bend c.requires.first c.requires.last in
    absurd (let one = sym c.if-contains.false ∙ (c.contains.ensures ∙ (own ∙ lead)) in cc)
