use Rattle.std.proofs.Common.{◌+◌, ◌∙◌, ℕ, sym, ap, subst}
use Rattle.std.specs.Prelude.{slice_index}
use Rattle.job_setup.specs.Setup.{JobData}
use Rattle.set_facts.specs.LaneFacts.{HasWays}
use Rattle.cert_merge.specs.Settled.{capped}
use Rattle.cert_merge.specs.SetWorths.{worth_of, lanes_of, IsLeastSum}
use Rattle.cert_merge.proofs.LaneWorths.{lane_sums}
use Rattle.cert_merge.proofs.set_worths.settled_worth.Goals as goal

pub returns : goal.returns
returns c =
    let job = c.args.job.now in
    let key = c.args.key.now in
    let changed = c.args.changed.now in
    let ways = c.ways-ways.result.0 in
    let stroke = job.setup.cost.stroke in
    let at = c.from.ensures ∙ c.number.ensures.value in
    record {
      ways = ways;
      are_ways = subst (λ (j : JobData). HasWays j key.mask key.stage ways) (sym c.requires.facts) c.ways-ways.ensures.lanes;
      number = stroke + c.least.result;
      is_least = subst (λ (n : ℕ). IsLeastSum 8 (λ to. stroke + slice_index ways to) (slice_index (lanes_of changed n)) (stroke + c.least.result)) at
          (lane_sums stroke ways (lanes_of changed c.from.result) c.plus.result.0 c.least.result c.plus.ensures.lanes c.least.ensures.least);
      is = c.worth_from.ensures ∙ ap (λ (n : ℕ). capped (worth_of (n + c.least.result))) c.stroke_cost.ensures.value;
    }
