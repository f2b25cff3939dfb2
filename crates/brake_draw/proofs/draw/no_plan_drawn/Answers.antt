use Rattle.std.proofs.Common.{rules, ◌≡◌, unsigned_abs, FitsSigned, w64}
use Rattle.std.proofs.lemmas.Int.{to_z-of_z}
use Rattle.std.proofs.lemmas.Result.{IfOk-weaker}
use Rattle.brake_base.specs.declared.stroke.Worth.TheVariants.{Blocked}
use Rattle.plan_cert.specs.CertReading.{cert_file_data}
use Rattle.command_runner.specs.declared.status.Status.TheVariants.{NoPlan}
use Rattle.command_runner.specs.Answers.{answer_data}
use Rattle.sheet_page.specs.Page.{IsNoPlanPage}
use Rattle.brake_draw.specs.Draw.{stored_page, IsDrawn}
use Rattle.brake_draw.proofs.Drawing.{read_good, read_claim, never_refused, no_plan_drawn}
use Rattle.brake_draw.proofs.draw.no_plan_drawn.Goals as goal

pub no_plan_page-requires-clause-good : goal.no_plan_page-requires-clause-good
no_plan_page-requires-clause-good c = read_good c.args.text.now c.args.job.now c.requires c.in-Ok.ensures.written (cert_file_data c.in-Ok.file) c.in-Ok.ensures.value

pub no_plan_page-requires-clause-claim : goal.no_plan_page-requires-clause-claim
no_plan_page-requires-clause-claim c = read_claim c.args.text.now c.args.job.now c.requires c.in-Ok.ensures.written (cert_file_data c.in-Ok.file) c.in-Ok.ensures.value

pub unreachable-requires : goal.unreachable-requires
unreachable-requires c = never_refused c.args.text.now c.args.job.now Blocked c.in-Err.fault c.requires c.in-Err.ensures.written c.in-Err.ensures.value c.in_default.not-NoMemory

pub returns-in_ok-line-in-Ok-clause-answer : goal.returns-in_ok-line-in-Ok-clause-answer
returns-in_ok-line-in-Ok-clause-answer c =
    let name = c.args.name.now in
    let text = c.args.text.now in
    let job = c.args.job.now in
    let file = cert_file_data c.in-Ok.file in
    let page = c.in_ok-page-in-Ok.page.items in
    let line = c.in_ok-line-in-Ok.line.items in
    let fits : FitsSigned w64 c.told_size.result = search rules in
    let shows : IsNoPlanPage job file.cert (unsigned_abs c.told_size.result) page = simp to_z-of_z at c.in_ok-page-in-Ok.ensures in
    IfOk-weaker c.stored.result (λ answer. answer_data answer ≡ stored_page name page NoPlan line) (λ answer. IsDrawn name text (answer_data answer))
    (λ answer is. no_plan_drawn text job c.requires c.in-Ok.ensures.written file c.in-Ok.ensures.value name page line (unsigned_abs c.told_size.result) (answer_data answer) shows c.told_size.ensures.value c.in_ok-line-in-Ok.ensures is)
    c.stored.ensures.answer
