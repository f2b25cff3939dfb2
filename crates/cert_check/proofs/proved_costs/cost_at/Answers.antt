use Rattle.cert_check.proofs.ProvedLemmas.{proved_by_bound}
use Rattle.cert_check.proofs.proved_costs.cost_at.Goals as goal

pub returns-in-None : goal.returns-in-None
returns-in-None c = proved_by_bound c.args.rows.now.job c.args.rows.now.rows c.args.key.now c.args.bound c.requires.bound c.requires.small
