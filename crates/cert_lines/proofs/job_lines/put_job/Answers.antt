use Rattle.std.proofs.Common.{refl, rules, FitsSigned, w64}
use Rattle.std.proofs.lemmas.Int.{to_z-of_z}
use Rattle.part_file.specs.Part.{part_data}
use Rattle.job_setup.specs.Setup.{setup_data}
use Rattle.cert_lines.proofs.JobTexts.{job_written}
use Rattle.cert_lines.proofs.job_lines.put_job.Goals as goal

pub returns-clause-text : goal.returns-clause-text
returns-clause-text c =
    let fits : FitsSigned w64 c.q.result = search rules in
    job_written c.args.job.now (part_data c.part.result.now) c.q.result (setup_data c.setup-setup.result.now) c.setup-setup.result.now.stages.items
    c.args.out.now.items c.put_part.new.out.items c.put_fixtures.new.out.items c.put_rules.new.out.items c.put_stages.new.out.items
    c.part.ensures.value c.q.ensures.value c.setup-setup.ensures.value refl
    (simp to_z-of_z at c.in_ok-put_part.ensures) c.in_ok-put_fixtures.ensures c.in_ok-put_rules.ensures (rw c.as_slice.ensures.value at c.in_ok-put_stages.ensures)
