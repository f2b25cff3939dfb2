use Rattle.std.proofs.Common.{◌≡◌, arith, rules}
use Rattle.job_setup.specs.Setup.{bend_count}
use Rattle.set_facts.proofs.OtherBends.{within_full}
use Rattle.set_facts.proofs.SameAttitudes.{agree_to}
use Rattle.set_facts.proofs.set_lanes.folded_past.Goals as goal

pub returns : goal.returns
returns c =
    let all : c.bends-bends.result ≡ bend_count c.args.job.now = omega (arith, c.bends-bends.ensures.value) in
    record {
      same = agree_to c.args.last c.bends-bends.result c.args.mask c.full-2.result c.full.result c.without-flat.result c.without.result
          (omega (arith, c.requires, all)) c.full-2.ensures.value c.full.ensures.value c.without-flat.ensures c.without.ensures;
      within = within_full c.args.job.now c.full-2.result c.without-flat.result c.without.result c.bends-bends.result all c.full-2.ensures.number c.without.ensures (search rules);
    }
