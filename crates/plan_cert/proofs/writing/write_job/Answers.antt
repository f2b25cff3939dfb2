use Rattle.std.proofs.Common.{List, ℕ, ◌++◌, ◌∙◌, ap}
use Rattle.cert_lines.specs.JobText.{job_text}
use Rattle.plan_cert.proofs.OneText.{one_text}
use Rattle.plan_cert.proofs.writing.write_job.Goals as goal

pub returns-clause-only : goal.returns-clause-only
returns-clause-only c =
    let job = c.args.job.now in
    one_text job c.put_job.new.out.items c.in_ok-put_job.ensures.valid (c.in_ok-put_job.ensures.text ∙ ap (λ (t : List ℕ). t ++ job_text job) c.new-out.ensures.items)
