use Rattle.std.proofs.Common.{map}
use Rattle.std.proofs.lemmas.List.{length-map}
use Rattle.part_file.specs.Part.{face_data}
use Rattle.part_file.proofs.PartRules.{has_new_name}
use Rattle.part_file.proofs.rules.has_new_name.Goals as goal

pub returns : goal.returns
returns c = has_new_name (map face_data c.args.faces.now) c.args.face c.has_namesake.result (rw length-map c.requires) c.has_namesake.ensures
