use Rattle.std.proofs.Common.{sym, subst}
use Rattle.job_setup.specs.Setup.{JobData, SetupData}
use Rattle.set_facts.specs.LaneFacts.{IsLaneFacts, AreChanges}
use Rattle.set_facts.proofs.lane_facts.LaneFacts.open.Goals as goal

pub invariant_of-result : goal.invariant_of-result
invariant_of-result c =
    let rows = c.put_changes.new.changes.items in
    let ways = c.ways_of.result in
    let sets = c.fill.new.sets.items in
    subst (λ (j : JobData). IsLaneFacts j rows ways sets) (sym c.copy.ensures.value)
    (record {
      valid = c.copy.ensures.valid;
      changes = subst (λ (s : SetupData). AreChanges s.cost rows) c.setup.ensures.value c.put_changes.ensures;
      ways = c.ways_of.ensures;
      sets = c.fill.ensures;
    })
