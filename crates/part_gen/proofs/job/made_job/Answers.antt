use Rattle.part_file.specs.Part.{part_data}
use Rattle.job_setup.specs.Setup.{setup_data}
use Rattle.part_gen.proofs.Jobs.{made_is_job}
use Rattle.part_gen.proofs.job.made_job.Goals as goal

pub unreachable-requires : goal.unreachable-requires
unreachable-requires c = c.in-None.ensures (made_is_job c.args.n (part_data c.made_part.result) (setup_data c.common_setup.result) c.made_part.ensures c.common_setup.ensures)
