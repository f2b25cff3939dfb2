use Rattle.tool_library.specs.Tools.{tools_data}
use Rattle.piece_pick.proofs.Lengths.{not_long_enough}
use Rattle.piece_pick.proofs.stock_length.is_long_enough.Goals as goal

pub returns : goal.returns
returns c = λ other.
    not_long_enough (tools_data c.args.tools.now) c.args.wants.now c.args.tool c.sections_of.result.now c.needed.result c.stock_length.result c.needed.ensures
    c.sections_of.ensures.value c.stock_length.ensures other
