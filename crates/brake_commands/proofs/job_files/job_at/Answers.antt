use Rattle.brake_commands.proofs.job_files.job_at.Goals as goal

pub returns : goal.returns
returns c = rw (c.content_at-part.ensures, c.content_at-tools.ensures, c.content_at-machine.ensures) at c.read_job.ensures
