use Rattle.std.proofs.Common.{◌≡◌, List, [], ℤ, ap, sym, subst}
use Rattle.tool_library.specs.Tools.{tools_data}
use Rattle.piece_pick.specs.Choice.{lists_of}
use Rattle.piece_pick.specs.Search.{IsPart}
use Rattle.piece_pick.proofs.Steps.{none_part}
use Rattle.piece_pick.proofs.Ends.{none_found}
use Rattle.piece_pick.proofs.choice.has_choice.Goals as goal

pub pick_rest-requires-clause-part : goal.pick_rest-requires-clause-part
pick_rest-requires-clause-part c =
    let empty : lists_of c.new-picked.result.items ≡ [] = ap lists_of c.new-picked.ensures in
    subst (λ (lists : List (List ℤ)). IsPart (tools_data c.args.tools.now) c.args.wants.now lists) (sym empty)
    (none_part (tools_data c.args.tools.now) c.args.wants.now)

pub returns : goal.returns
returns c =
    let empty : lists_of c.new-picked.result.items ≡ [] = ap lists_of c.new-picked.ensures in
    none_found (tools_data c.args.tools.now) c.args.wants.now (lists_of c.new-picked.result.items) (lists_of c.pick_rest.new.picked.items) c.pick_rest.result empty c.pick_rest.ensures
