use Rattle.tool_library.specs.Tools.{tools_data}
use Rattle.piece_pick.proofs.Ends.{end_asked, end_none}
use Rattle.piece_pick.proofs.choice.has_end.Goals as goal

pub has_choice-requires : goal.has_choice-requires
has_choice-requires c = record { asked = end_asked (tools_data c.args.tools.now) c.args.wants.now c.args.from c.requires.asked }

pub returns : goal.returns
returns c = λ none. end_none (tools_data c.args.tools.now) c.args.wants.now c.args.from (c.has_choice.ensures none)
