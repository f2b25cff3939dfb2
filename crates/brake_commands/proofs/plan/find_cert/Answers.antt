use Rattle.std.proofs.Common.{sym, ◌∙◌, subst}
use Rattle.job_setup.specs.Setup.{JobData}
use Rattle.bb_search.specs.Certificates.{IsWrittenAs}
use Rattle.brake_commands.proofs.Searching.{opened_job, opened_fresh, opened_budget, has_answer, is_plan_cert, is_within, spent_above}
use Rattle.brake_commands.proofs.PlanAnswers.{few_within}
use Rattle.brake_commands.proofs.plan.find_cert.Goals as goal

pub run-requires-clause-job : goal.run-requires-clause-job
run-requires-clause-job c = opened_job c.in_ok-search.search c.args.job.now c.args.budget c.in_ok-search.ensures

pub run-requires-clause-fresh : goal.run-requires-clause-fresh
run-requires-clause-fresh c = opened_fresh c.in_ok-search.search c.args.job.now c.args.budget c.in_ok-search.ensures

pub returns-in-Spent : goal.returns-in-Spent
returns-in-Spent c =
    spent_above c.args.job.now c.run.new.self c.run.result c.args.budget c.in-Spent.is
    (c.run.ensures.budget ∙ opened_budget c.in_ok-search.search c.args.job.now c.args.budget c.in_ok-search.ensures) c.run.ensures.answer

pub write-requires-clause-job : goal.write-requires-clause-job
write-requires-clause-job c = opened_job c.in_ok-search.search c.args.job.now c.args.budget c.in_ok-search.ensures ∙ sym c.run.ensures.job

pub write-requires-clause-answered : goal.write-requires-clause-answered
write-requires-clause-answered c =
    has_answer c.args.job.now c.run.new.self c.run.result c.in_default.not-Spent c.run.ensures.outcome
    (opened_job c.in_ok-search.search c.args.job.now c.args.budget c.in_ok-search.ensures ∙ sym c.run.ensures.job) c.run.ensures.answer

pub returns-in_ok-write-in_default : goal.returns-in_ok-write-in_default
returns-in_ok-write-in_default c =
    let job = c.args.job.now in
    let search = c.run.new.self in
    let written = c.in_ok-write-in_default.field-0 in
    let is = c.in_ok-write-in_default.ensures in
    let same = opened_job c.in_ok-search.search job c.args.budget c.in_ok-search.ensures ∙ sym c.run.ensures.job in
    let given = c.run.ensures.budget ∙ opened_budget c.in_ok-search.search job c.args.budget c.in_ok-search.ensures in (
      is.0,
      is_plan_cert job search is.0 same is.1,
      few_within job c.args.budget is.0 (is_within job search is.0 c.args.budget same given is.1),
      subst (λ (j : JobData). IsWrittenAs j is.0 written) (sym same) is.2,
    )
