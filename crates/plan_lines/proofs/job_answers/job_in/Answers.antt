use Rattle.std.proofs.Common.{Err, refl, subst}
use Rattle.plan_lines.specs.declared.item.CertFault.{CertFault}
use Rattle.plan_lines.specs.Reading.{HoldsBefore}
use Rattle.plan_lines.proofs.job_answers.job_in.Goals as goal

pub returns-in-Some-clause-given : goal.returns-in-Some-clause-given
returns-in-Some-clause-given c = λ behind holds.
    let read = rw c.in-Some.is at c.behind_job_lines-number.ensures.some in
    let (more, first, same) = read behind in
    rw (← c.new-lines.ensures, same) (c.judged_job.ensures.given behind more first)

pub returns-in-None-clause-given : goal.returns-in-None-clause-given
returns-in-None-clause-given c = λ behind holds.
    let read = rw c.in-None.is at c.behind_job_lines-number.ensures.none in
    rw (← c.new-lines.ensures, read refl behind (subst (λ (fault : CertFault). HoldsBefore (Err fault) behind) c.refuse.ensures.fault holds)) (c.refuse.ensures.given _)
