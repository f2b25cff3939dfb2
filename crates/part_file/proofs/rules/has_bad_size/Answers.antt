use Rattle.std.proofs.Common.{map}
use Rattle.part_file.specs.Part.{face_data}
use Rattle.part_file.proofs.PartRules.{bad_size_is}
use Rattle.part_file.proofs.rules.has_bad_size.Goals as goal

pub returns : goal.returns
returns c = bad_size_is (map face_data c.args.faces.now) c.args.face c.is_placed.result c.is_placed.ensures
