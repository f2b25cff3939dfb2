use Rattle.std.specs.Vec.{vec_items}
use Rattle.command_runner.proofs.Fetches.{seen_at}
use Rattle.brake_commands.proofs.job_files.content_at.Goals as goal

pub returns : goal.returns
returns c = seen_at vec_items c.args.contents.now c.args.place c.index-contents-place.result c.as_slice.result.now c.requires c.index-contents-place.is c.as_slice.ensures.value
