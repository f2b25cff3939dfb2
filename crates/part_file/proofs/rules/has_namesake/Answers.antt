use Rattle.part_file.proofs.PartRules.{namesake_is}
use Rattle.part_file.proofs.rules.has_namesake.Goals as goal

pub returns : goal.returns
returns c = namesake_is c.args.faces.now c.args.face c.index-faces-face.result c.has_name.result c.requires c.has_name.ensures
