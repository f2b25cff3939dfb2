use Rattle.std.proofs.Common.{subst}
use Rattle.job_setup.specs.Setup.{JobData}
use Rattle.job_setup.specs.ValidJob.{IsJob}
use Rattle.set_facts.proofs.LaneTables.{set_at, bounds_small}
use Rattle.set_facts.proofs.lane_facts.LaneFacts.bounds.Goals as goal

pub returns : goal.returns
returns c =
    let now = c.args.self.now in
    let set = set_at c.self.inside.job now c.self.inside.sets.items c.from.result c.args.mask c.index.result.now c.self.view_is c.self.invariant.sets c.requires c.from.ensures c.index.ensures in
    let valid : IsJob now = subst (λ (j : JobData). IsJob j) c.self.view_is c.self.invariant.valid in
    record { lanes = set.bounds; small = bounds_small now valid c.args.mask c.index.result.now.bounds.0 c.requires set.bounds }
