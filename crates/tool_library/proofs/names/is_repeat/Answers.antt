use Rattle.std.proofs.Common.{◌∙◌}
use Rattle.tool_library.proofs.Repeats.{earlier}
use Rattle.tool_library.proofs.names.is_repeat.Goals as goal

pub returns : goal.returns
returns g c =
    c.has_name.ensures ∙ earlier g.T.Named.name_of c.args.tools.now c.args.i c.index-tools-i.result c.name.result.now.bytes c.requires c.index-tools-i.is c.name.ensures
