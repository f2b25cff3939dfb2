use Rattle.set_facts.proofs.LaneTables.{set_at}
use Rattle.set_facts.proofs.lane_facts.LaneFacts.leads.Goals as goal

pub returns : goal.returns
returns c =
    let set = set_at c.self.inside.job c.args.self.now c.self.inside.sets.items c.from.result c.args.mask c.index.result.now c.self.view_is c.self.invariant.sets c.requires c.from.ensures c.index.ensures in
    record { leads = set.leads; only = set.only }
