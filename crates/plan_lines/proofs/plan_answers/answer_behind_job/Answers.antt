use Rattle.std.proofs.Common.{Err, refl, subst}
use Rattle.plan_lines.specs.declared.item.CertFault.{CertFault}
use Rattle.plan_lines.specs.Reading.{HoldsBefore}
use Rattle.plan_lines.proofs.PlanItems.{line_unended}
use Rattle.cert_lines.proofs.WholeLines.{all_behind}
use Rattle.plan_lines.proofs.plan_answers.answer_behind_job.Goals as goal

pub returns-in-None-clause-given : goal.returns-in-None-clause-given
returns-in-None-clause-given c = λ behind answers left some holds.
    line_unended c.args.reader.now.place c.refuse.new.reader.place answers (Err c.refuse.result) c.args.reader.now.rest.now behind _ left some (subst (λ (fault : CertFault). HoldsBefore (Err fault) behind) c.refuse.ensures.fault holds) (c.in-None.ensures.none refl) (c.refuse.ensures.given _)

pub returns-in-None-clause-rest : goal.returns-in-None-clause-rest
returns-in-None-clause-rest c = rw c.refuse.ensures.rest (all_behind c.args.reader.now.rest.now)
