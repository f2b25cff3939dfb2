use Rattle.std.proofs.Common.{◌≡◌, List, [], ℤ, ap, sym, subst}
use Rattle.tool_library.specs.Tools.{tools_data}
use Rattle.piece_pick.specs.Choice.{lists_of}
use Rattle.piece_pick.specs.Search.{IsPart, Begins, IsFirst, HasNone}
use Rattle.piece_pick.proofs.Steps.{none_part, whole_first, whole_none}
use Rattle.piece_pick.proofs.choice.pick.Goals as goal

pub pick_rest-requires-clause-part : goal.pick_rest-requires-clause-part
pick_rest-requires-clause-part c =
    let empty : lists_of c.new-picked.result.items ≡ [] = ap lists_of c.new-picked.ensures in
    subst (λ (lists : List (List ℤ)). IsPart (tools_data c.args.tools.now) c.args.wants.now lists) (sym empty)
    (none_part (tools_data c.args.tools.now) c.args.wants.now)

pub returns-then-pick_rest : goal.returns-then-pick_rest
returns-then-pick_rest c =
    let tools = tools_data c.args.tools.now in
    let now = lists_of c.pick_rest.new.picked.items in
    let empty : lists_of c.new-picked.result.items ≡ [] = ap lists_of c.new-picked.ensures in
    whole_first tools c.args.wants.now now
    (subst (λ (lists : List (List ℤ)). IsFirst tools c.args.wants.now (Begins lists) now) empty c.if-pick_rest.ensures)

pub returns-else-pick_rest : goal.returns-else-pick_rest
returns-else-pick_rest c =
    let tools = tools_data c.args.tools.now in
    let empty : lists_of c.new-picked.result.items ≡ [] = ap lists_of c.new-picked.ensures in
    whole_none tools c.args.wants.now
    (subst (λ (lists : List (List ℤ)). HasNone tools c.args.wants.now (Begins lists)) empty c.if-pick_rest.ensures.0)
