use Rattle.std.proofs.Common.{refl, sym, ◌∙◌, subst}
use Rattle.plan_lines.specs.declared.item.Item.TheVariants as given
use Rattle.plan_lines.specs.Reading.{Reading}
use Rattle.plan_cert.specs.CertReading.{AnswersLeft}
use Rattle.plan_cert.proofs.Collecting.{goes_on}
use Rattle.brake_draw.proofs.FirstSteps.{steps_read, begins_with_job}
use Rattle.brake_draw.proofs.steps.steps_of.Goals as goal

pub steps_left-requires-clause-left : goal.steps_left-requires-clause-left
steps_left-requires-clause-left c =
    let r = c.new-reader.result in
    subst (λ (q : Reading). AnswersLeft q) (sym c.read_job.ensures.after)
    (goes_on r.kind r.text r.answered (given.Job c.in-Ok.field-0) c.in-Ok.ensures.given refl)

pub returns-in-Ok : goal.returns-in-Ok
returns-in-Ok c = λ job cert written. c.steps_left.ensures
    ∙ steps_read c.args.text.now job cert c.new-reader.ensures.exact written c.new-reader.result c.read_job.new.self c.new-reader.ensures.reader c.read_job.ensures.after

pub returns-in-Err : goal.returns-in-Err
returns-in-Err c = λ job cert written. absurd
    (begins_with_job c.args.text.now job cert c.new-reader.ensures.exact written c.new-reader.result c.in-Err.field-0 c.new-reader.ensures.reader c.in-Err.ensures.given)
