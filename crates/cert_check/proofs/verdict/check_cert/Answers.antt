use Rattle.std.proofs.Common.{List, sym, subst}
use Rattle.std.specs.Prelude.{All}
use Rattle.brake_base.specs.declared.stroke.Step.{Step}
use Rattle.brake_base.specs.declared.stroke.Worth.{Worth}
use Rattle.handling_cost.specs.Good.{AreClaimed}
use Rattle.plan_cert.specs.WellFormed.{HasSteps}
use Rattle.plan_lines.specs.LinesFit.{IsStep}
use Rattle.cert_check.specs.Steps.{AreFaulty}
use Rattle.cert_check.proofs.Deciding.{cert_answer, steps_refused}
use Rattle.cert_check.proofs.verdict.check_cert.Goals as goal

pub check_steps-requires-clause-count : goal.check_steps-requires-clause-count
check_steps-requires-clause-count c =
    let job = c.args.job.now in
    let are = c.requires.1 in
    subst (λ (w : Worth). HasSteps job w c.args.steps.now) (sym are.parts.claim_is) (subst (HasSteps job c.requires.0.claim) (sym are.steps_are) are.parts.form.has_steps)

pub check_steps-requires-clause-each : goal.check_steps-requires-clause-each
check_steps-requires-clause-each c =
    let are = c.requires.1 in
    subst (All (IsStep c.args.job.now)) (sym are.steps_are) are.parts.form.steps

pub check_proof-requires : goal.check_proof-requires
check_proof-requires c = (c.requires.0, let are = c.requires.1 in are.parts)

pub returns-in-Ok : goal.returns-in-Ok
returns-in-Ok c = λ cert are.
    let job = c.args.job.now in
    cert_answer job cert c.check_proof.result
    (subst (λ (w : Worth). AreClaimed job w cert.steps) are.parts.claim_is (subst (AreClaimed job c.args.claim) are.steps_are c.in-Ok.ensures)) (c.check_proof.ensures cert are.parts)

pub returns-in-Err : goal.returns-in-Err
returns-in-Err c = λ cert are.
    let job = c.args.job.now in
    steps_refused job cert c.in-Err.fault
    (subst (λ (w : Worth). AreFaulty job w cert.steps c.in-Err.fault) are.parts.claim_is (subst (λ (s : List Step). AreFaulty job c.args.claim s c.in-Err.fault) are.steps_are c.in-Err.ensures))
