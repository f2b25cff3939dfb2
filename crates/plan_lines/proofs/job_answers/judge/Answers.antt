use Rattle.std.proofs.Common.{rules, arith}
use Rattle.std.proofs.lemmas.Bool.{not-false}
use Rattle.std.proofs.lemmas.Int.{to_z-of_z}
use Rattle.job_setup.specs.ValidJob.{IsJobFrom}
use Rattle.cert_lines.specs.JobLines.{job_lines_data, job_of}
use Rattle.plan_lines.proofs.JobItems.{judged}
use Rattle.plan_lines.proofs.job_answers.judge.Goals as goal

pub returns : goal.returns
returns c =
    let lines = job_lines_data c.args.lines in
    let from : IsJobFrom c.job_from.result (job_of lines) = first_of (grind (arith, to_z-of_z), search (rules, to_z-of_z)) in
    judged lines c.job_from.result (not-false c.args.lines.is_sound c.if-not-lines.false) from
