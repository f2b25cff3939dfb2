use Rattle.std.proofs.Common.{◌≡◌, ◌<◌, [], length, drop, Some, sym, subst, refl}
use Rattle.std.specs.Prelude.{slice_get}
use Rattle.plan_lines.specs.Reading.{Reading}
use Rattle.plan_lines.specs.PlanItem.{plan_answer}
use Rattle.plan_lines.specs.Items.{items}
use Rattle.plan_lines.proofs.ItemCounts.{some_left}
use Rattle.plan_lines.proofs.Begun.{leaves_at, answered_on, holds_last}
use Rattle.plan_cert.proofs.reader.CertReader.next_behind_job.Goals as goal

pub invariant_of-self : goal.invariant_of-self
invariant_of-self c =
    let inside = c.self.inside in
    let plan = inside.plan in
    let all = items inside.kind inside.text.now in
    let less : inside.answered < length all = subst (λ (r : Reading). r.answered < length (items r.kind r.text)) (sym c.self.view_is) c.requires.left in
    let some : 0 < inside.answered = subst (λ (r : Reading). 0 < r.answered) (sym c.self.view_is) c.requires.job in
    let left = leaves_at inside.kind plan.place plan.rest.now (drop inside.answered all) inside.answered some c.self.invariant.0 in
    let read = c.answer_behind_job in
    let given = plan_answer read.result in (
      (answered_on inside.kind read.new.reader.place read.new.reader.rest.now all inside.answered given (read.ensures.given [] (drop inside.answered all) left (some_left all inside.answered less) (holds_last given refl))).1,
      read.ensures.few,
    )

pub returns-clause-given : goal.returns-clause-given
returns-clause-given c =
    let inside = c.self.inside in
    let plan = inside.plan in
    let all = items inside.kind inside.text.now in
    let less : inside.answered < length all = subst (λ (r : Reading). r.answered < length (items r.kind r.text)) (sym c.self.view_is) c.requires.left in
    let some : 0 < inside.answered = subst (λ (r : Reading). 0 < r.answered) (sym c.self.view_is) c.requires.job in
    let left = leaves_at inside.kind plan.place plan.rest.now (drop inside.answered all) inside.answered some c.self.invariant.0 in
    let read = c.answer_behind_job in
    let given = plan_answer read.result in
    subst (λ (r : Reading). slice_get (items r.kind r.text) r.answered ≡ Some given) c.self.view_is
    (answered_on inside.kind read.new.reader.place read.new.reader.rest.now all inside.answered given (read.ensures.given [] (drop inside.answered all) left (some_left all inside.answered less) (holds_last given refl))).0
