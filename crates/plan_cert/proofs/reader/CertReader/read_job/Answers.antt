use Rattle.std.proofs.Common.{◌≡◌, [], Some, sym, subst, refl}
use Rattle.std.specs.Prelude.{slice_get}
use Rattle.plan_lines.specs.Reading.{Reading}
use Rattle.plan_lines.specs.PlanItem.{job_answer}
use Rattle.plan_lines.specs.Items.{items}
use Rattle.plan_lines.proofs.Begun.{first_answered, holds_last}
use Rattle.plan_cert.proofs.reader.CertReader.read_job.Goals as goal

pub invariant_of-self : goal.invariant_of-self
invariant_of-self c =
    let inside = c.self.inside in
    let plan = inside.plan in
    let none : inside.answered ≡ 0 = subst (λ (r : Reading). r.answered ≡ 0) (sym c.self.view_is) c.requires in
    let read = c.first_answer in
    let next = read.new.reader in
    let given = job_answer read.result in (
      (first_answered inside.kind plan.place next.place plan.rest.now next.rest.now (items inside.kind inside.text.now) inside.answered given none c.self.invariant.0 (read.ensures.given [] (holds_last given refl))).1,
      read.ensures.few,
    )

pub returns-clause-given : goal.returns-clause-given
returns-clause-given c =
    let inside = c.self.inside in
    let plan = inside.plan in
    let none : inside.answered ≡ 0 = subst (λ (r : Reading). r.answered ≡ 0) (sym c.self.view_is) c.requires in
    let read = c.first_answer in
    let next = read.new.reader in
    let given = job_answer read.result in
    subst (λ (r : Reading). slice_get (items r.kind r.text) r.answered ≡ Some given) c.self.view_is
    (first_answered inside.kind plan.place next.place plan.rest.now next.rest.now (items inside.kind inside.text.now) inside.answered given none c.self.invariant.0 (read.ensures.given [] (holds_last given refl))).0
