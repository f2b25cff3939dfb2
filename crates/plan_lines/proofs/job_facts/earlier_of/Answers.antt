use Rattle.plan_lines.proofs.FactsKept.{earlier_are}
use Rattle.plan_lines.proofs.job_facts.earlier_of.Goals as goal

pub returns : goal.returns
returns c =
    earlier_are c.args.job.now c.args.bend c.group.result c.full.result c.intersection.result _ c.requires.some c.empty.ensures.value c.group.ensures.bends c.full.ensures.value c.intersection.ensures
