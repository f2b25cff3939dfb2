use Rattle.std.proofs.Common.{◌≤◌, ◌<◌, pos, length, get_or, refl, rules, arith}
use Rattle.tool_library.specs.Tools.{tools_data}
use Rattle.piece_pick.specs.declared.want.Want.{Want}
use Rattle.piece_pick.specs.Choice.{lists_of}
use Rattle.piece_pick.specs.Search.{HasNoFill}
use Rattle.piece_pick.proofs.Firsts.{none_alone}
use Rattle.piece_pick.proofs.OffGrid.{few_off}
use Rattle.piece_pick.proofs.Steps.{size_of}
use Rattle.piece_pick.proofs.choice.is_each_served.Goals as goal

pub returns-then-not-may_be_served : goal.returns-then-not-may_be_served
returns-then-not-may_be_served c =
    let wants = c.args.wants.now in
    let i = c.loop-i.i in
    let no_want : Want = record { punch = 0; die = 0; length = pos 0 } in
    let want = get_or wants i no_want in
    let size = size_of c.args.picked.now in
    let low : length c.args.picked.now ≤ i = search rules in
    let within : i < length wants = search rules in
    let none : HasNoFill c.supply_for-supply.result.items want.length 32 = c.if-not-may_be_served.ensures refl in
    λ _. none_alone (tools_data c.args.tools.now) wants (lists_of c.args.picked.now) i want no_want c.supply_for-supply.result.items (omega (arith, size, low)) within refl
    c.supply_for-supply.ensures.supply c.supply_for-supply.ensures.left none

pub returns-then-not-has_pieces_off : goal.returns-then-not-has_pieces_off
returns-then-not-has_pieces_off c =
    let wants = c.args.wants.now in
    let i = c.loop-i.i in
    let no_want : Want = record { punch = 0; die = 0; length = pos 0 } in
    let want = get_or wants i no_want in
    let size = size_of c.args.picked.now in
    let low : length c.args.picked.now ≤ i = search rules in
    λ _. few_off (tools_data c.args.tools.now) wants (lists_of c.args.picked.now) i want _ c.supply_for-supply.result.items _ c.requires.asked.few
    (omega (arith, size, low)) c.supply_for-supply.ensures.left refl c.as_slice.ensures.value (c.if-not-has_pieces_off.ensures refl)
