use Rattle.std.proofs.Common.{sym, ◌∙◌, ap}
use Rattle.cert_words.proofs.NumberWords.{cost_there, no_cost, else_blocked}
use Rattle.cert_words.proofs.line_words.worth.Goals as goal

pub returns-in-Some : goal.returns-in-Some
returns-in-Some c = cost_there c.args.text.now c.in-Some.rest.now c.in-Some.cost c.in-Some.ensures c.if-cost-le1000000000.true

pub returns-in-Some-2 : goal.returns-in-Some-2
returns-in-Some-2 c = no_cost c.args.text.now c.in-Some.rest.now c.in-Some.cost c.in-Some.ensures c.if-cost-le1000000000.false

pub returns-in-None : goal.returns-in-None
returns-in-None c = rw (else_blocked c.args.text.now c.in-None.ensures) c.blocked.ensures
