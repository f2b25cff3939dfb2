use Rattle.std.proofs.Common.{Err, None, Some, refl, sym, subst, ◌∙◌}
use Rattle.plan_lines.specs.declared.item.CertFault.{CertFault}
use Rattle.plan_lines.specs.Reading.{HoldsBefore}
use Rattle.plan_lines.proofs.JobItems.{first_cut, first_unended}
use Rattle.cert_lines.proofs.WholeLines.{all_behind, behind_cut, behind_both}
use Rattle.plan_lines.proofs.job_answers.first_answer.Goals as goal

pub returns-in-Some-format_of-clause-given : goal.returns-in-Some-format_of-clause-given
returns-in-Some-format_of-clause-given c = λ behind holds.
    rw (first_cut c.args.kind c.in-Some.line.now c.args.reader.now.rest.now c.in-Some.rest.now behind (Some c.in-Some-format_of.format) c.in-Some.ensures.some (sym c.format_of.ensures ∙ c.in-Some-format_of.is)) (c.job_in.ensures.given behind holds)

pub returns-in-Some-format_of-clause-rest : goal.returns-in-Some-format_of-clause-rest
returns-in-Some-format_of-clause-rest c =
    behind_both c.args.reader.now.rest.now c.in-Some.rest.now c.job_in.new.reader.rest.now (behind_cut c.args.reader.now.rest.now c.in-Some.line.now c.in-Some.rest.now c.in-Some.ensures.some) c.job_in.ensures.rest

pub returns-in-None-format_of-clause-given : goal.returns-in-None-format_of-clause-given
returns-in-None-format_of-clause-given c = λ behind holds.
    rw (first_cut c.args.kind c.in-Some.line.now c.args.reader.now.rest.now c.in-Some.rest.now behind None c.in-Some.ensures.some (sym c.format_of.ensures ∙ c.in-None-format_of.is)) (c.refuse.ensures.given _)

pub returns-in-None-format_of-clause-rest : goal.returns-in-None-format_of-clause-rest
returns-in-None-format_of-clause-rest c = rw c.refuse.ensures.rest (all_behind c.args.reader.now.rest.now)

pub returns-in-None-clause-given : goal.returns-in-None-clause-given
returns-in-None-clause-given c = λ behind holds.
    rw (first_unended c.args.kind c.args.reader.now.rest.now behind (subst (λ (fault : CertFault). HoldsBefore (Err fault) behind) c.refuse-in-None.ensures.fault holds) (c.in-None.ensures.none refl)) (c.refuse-in-None.ensures.given _)

pub returns-in-None-clause-rest : goal.returns-in-None-clause-rest
returns-in-None-clause-rest c = rw c.refuse-in-None.ensures.rest (all_behind c.args.reader.now.rest.now)
