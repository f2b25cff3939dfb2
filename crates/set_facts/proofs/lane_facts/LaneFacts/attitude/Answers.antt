use Rattle.set_facts.proofs.LaneTables.{set_at}
use Rattle.set_facts.proofs.lane_facts.LaneFacts.attitude.Goals as goal

pub returns : goal.returns
returns c = λ stage.
    let set = set_at c.self.inside.job c.args.self.now c.self.inside.sets.items c.from.result c.args.mask c.index.result.now c.self.view_is c.self.invariant.sets c.requires.mask c.from.ensures c.index.ensures in
    rw c.side_place.ensures.value (set.held (record { bend = c.args.bend; back = c.args.back; stage = stage }) _ c.requires.first c.requires.last)
