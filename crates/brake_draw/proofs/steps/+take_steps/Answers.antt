use Rattle.std.proofs.Common.{◌≡◌, ◌<◌, true, false, length, sym, ◌∙◌, subst, arith}
use Rattle.plan_lines.specs.PlanItem.{item_of}
use Rattle.plan_lines.specs.Reading.{Reading}
use Rattle.plan_cert.specs.CertReading.{answers_left}
use Rattle.brake_draw.specs.Steps.{is_before_rows}
use Rattle.brake_draw.proofs.FirstSteps.{left_behind, fewer_left, steps_on, steps_end, steps_refused}
use Rattle.brake_draw.proofs.steps.+take_steps.Goals as goal

pub take_steps-requires : goal.take_steps-requires
take_steps-requires t c =
    let r = c.args.reader.now in
    let behind = c.next_behind_job.new.self in
    let item = item_of c.in-Ok.item in
    let before : is_before_rows item ≡ true = sym c.take_item.ensures.before ∙ c.if-take_item.true in
    let fewer = fewer_left r behind item c.in-Ok.ensures.given c.next_behind_job.ensures.after in
    let less : length (answers_left behind) < t = omega (arith, c.decreases, fewer) in (
      less,
      (
        subst (λ (q : Reading). 0 < q.answered) (sym c.next_behind_job.ensures.after) (omega arith),
        left_behind r behind item c.in-Ok.ensures.given c.next_behind_job.ensures.after before,
      ),
    )

pub returns-then-take_item : goal.returns-then-take_item
returns-then-take_item t c =
    let item = item_of c.in-Ok.item in
    let before : is_before_rows item ≡ true = sym c.take_item.ensures.before ∙ c.if-take_item.true in
    steps_on c.args.reader.now c.next_behind_job.new.self item c.in-Ok.ensures.given c.next_behind_job.ensures.after
    c.args.steps.now.items c.take_item.new.steps.items c.take_steps.new.steps.items before c.take_item.ensures.steps c.take_steps.ensures

pub returns-else-take_item : goal.returns-else-take_item
returns-else-take_item t c =
    let item = item_of c.in-Ok.item in
    let before : is_before_rows item ≡ false = sym c.take_item.ensures.before ∙ c.if-take_item.false in
    steps_end c.args.reader.now c.next_behind_job.new.self item c.in-Ok.ensures.given c.next_behind_job.ensures.after
    c.args.steps.now.items c.take_item.new.steps.items before c.take_item.ensures.steps

pub returns-in-Err : goal.returns-in-Err
returns-in-Err t c = steps_refused c.args.reader.now c.args.steps.now.items c.in-Err.field-0 c.in-Err.ensures.given
