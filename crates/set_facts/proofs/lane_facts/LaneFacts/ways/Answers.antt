use Rattle.std.proofs.Common.{◌≡◌, ◌==◌, ◌∙◌, true, false, sym, subst}
use Rattle.job_setup.specs.Setup.{JobData}
use Rattle.job_setup.specs.ValidJob.{IsJob}
use Rattle.set_facts.proofs.LaneTables.{ways_of_none, ways_of_some, ways_small}
use Rattle.set_facts.proofs.lane_facts.LaneFacts.ways.Goals as goal

pub returns-then-is_empty-clause-lanes : goal.returns-then-is_empty-clause-lanes
returns-then-is_empty-clause-lanes c =
    let none : (c.args.mask.0 == 0) ≡ true = sym c.is_empty.ensures.number ∙ c.if-is_empty.true in
    ways_of_none c.self.inside.job c.args.self.now c.args.mask c.args.stage _ c.self.view_is none (c.self.invariant.ways.start c.args.stage _)

pub returns-then-is_empty-clause-small : goal.returns-then-is_empty-clause-small
returns-then-is_empty-clause-small c =
    let now = c.args.self.now in
    let none : (c.args.mask.0 == 0) ≡ true = sym c.is_empty.ensures.number ∙ c.if-is_empty.true in
    let valid : IsJob now = subst (λ (j : JobData). IsJob j) c.self.view_is c.self.invariant.valid in
    ways_small now valid c.args.mask c.args.stage _ c.requires (ways_of_none c.self.inside.job now c.args.mask c.args.stage _ c.self.view_is none (c.self.invariant.ways.start c.args.stage _))

pub returns-else-is_empty-clause-small : goal.returns-else-is_empty-clause-small
returns-else-is_empty-clause-small c =
    let now = c.args.self.now in
    let some : (c.args.mask.0 == 0) ≡ false = sym c.is_empty.ensures.number ∙ c.if-is_empty.false in
    let valid : IsJob now = subst (λ (j : JobData). IsJob j) c.self.view_is c.self.invariant.valid in
    rw c.from.ensures (ways_small now valid c.args.mask c.args.stage _ c.requires (ways_of_some c.self.inside.job now c.args.mask c.args.stage c.self.inside.ways _ c.self.view_is some c.requires c.self.invariant.ways))
