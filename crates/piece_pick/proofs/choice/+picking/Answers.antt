use Rattle.std.proofs.Common.{◌≡◌, ◌≤◌, ◌<◌, ◌+◌, ◌∙◌, ℤ, pos, ◌≤ℤ◌, ◌<ℤ◌, true, false, ◌++◌, ◌∷◌, [], List, length, get_or, drop, refl, sym, ap, subst, ◌-ℤ◌, FitsSigned, w64, to_z, of_z, rules, arith}
use Rattle.std.proofs.lemmas.Int.{to_z-of_z}
use Rattle.std.proofs.lemmas.List.{get_or_default}
use Rattle.arrayvec.specs.ArrayVec.{ArrayVec}
use Rattle.tool_library.specs.Tools.{tools_data}
use Rattle.piece_pick.specs.Search.{IsLeftFor, GoesOn, IsFirst}
use Rattle.piece_pick.specs.Choice.{lists_of}
use Rattle.piece_pick.proofs.Begun.{next_want}
use Rattle.piece_pick.proofs.Firsts.{first_full}
use Rattle.piece_pick.proofs.Steps.{done_part, done_finds, dead_finds, taken_finds, left_finds, too_long, start_finds, next_within, taken_kind, left_kind, start_state, next_state, shorter_state, moved_state, moved_start, same_size, size_of}
use Rattle.piece_pick.specs.declared.want.Want.{Want}
use Rattle.piece_pick.proofs.choice.+picking.Goals as goal

pub make_up-finish-requires : goal.make_up-finish-requires
make_up-finish-requires t c =
    let tools = tools_data c.args.tools.now in
    let wants = c.args.wants.now in
    let before = lists_of c.args.picked.now.items in
    let own = c.args.search.now in
    let state = c.requires.state in
    let within = next_within wants before own.want state.next in
    let size = size_of c.args.picked.now.items in
    let none : c.args.rest.now ≡ pos 0 = search rules in
    let few : length own.pieces.items ≤ 32 = omega (arith, c.room-room.ensures) in (
      omega (arith, c.decreases),
      (
        state.asked,
        (
          omega (arith, within, size),
          done_part tools wants before own.want own.supply.items own.pieces.items c.args.from c.args.rest.now state.asked.wants_are state.part state.next
              own.supply_is state.left state.at none few,
        ),
      ),
    )

pub make_up-returns-then-rest-eq0-clause-found : goal.make_up-returns-then-rest-eq0-clause-found
make_up-returns-then-rest-eq0-clause-found t c =
    let own = c.args.search.now in
    let state = c.requires.state in
    let none : c.args.rest.now ≡ pos 0 = search rules in
    done_finds (tools_data c.args.tools.now) c.args.wants.now (lists_of c.args.picked.now.items) own.want own.supply.items own.pieces.items c.args.from c.args.rest.now
    c.finish.result (lists_of c.finish.new.picked.items) state.next own.supply_is state.at none c.finish.ensures

pub make_up-returns-then-not-may_make_up-clause-found :
    goal.make_up-returns-then-not-may_make_up-clause-found
make_up-returns-then-not-may_make_up-clause-found t c =
    let own = c.args.search.now in
    let state = c.requires.state in (
      dead_finds (tools_data c.args.tools.now) c.args.wants.now (lists_of c.args.picked.now.items) own.want own.supply.items own.pieces.items c.args.from c.room-room.result c.args.rest.now
          state.next state.at c.room-room.ensures (c.if-not-may_make_up.ensures.none refl),
      refl,
    )

pub make_up-returns-then-take_next-clause-found : goal.make_up-returns-then-take_next-clause-found
make_up-returns-then-take_next-clause-found t c =
    let tools = tools_data c.args.tools.now in
    let wants = c.args.wants.now in
    let before = lists_of c.args.picked.now.items in
    let own = c.args.search.now in
    let state = c.requires.state in
    let now = lists_of c.take_next.new.picked.items in
    let x = get_or own.supply.items c.args.from (pos 0) in
    let some : pos 1 ≤ℤ c.args.rest.now = search rules in
    let within : c.args.from < length own.supply.items = search rules in
    let here : get_or own.supply.items c.args.from x ≡ x = get_or_default own.supply.items c.args.from x (pos 0) within in
    taken_finds tools wants before own.want own.supply.items own.pieces.items c.args.from c.args.rest.now x now state.next own.supply_is state.at some within here
    (taken_kind tools wants before own.supply.items c.may_make_up.new.self.supply.items own.pieces.items c.may_make_up.new.self.pieces.items c.args.from x true now
    c.may_make_up.ensures.same_supply c.may_make_up.ensures.same_pieces here c.if-take_next.ensures.found)

pub make_up-returns-clause-found : goal.make_up-returns-clause-found
make_up-returns-clause-found t c =
    let tools = tools_data c.args.tools.now in
    let wants = c.args.wants.now in
    let before = lists_of c.args.picked.now.items in
    let own = c.args.search.now in
    let state = c.requires.state in
    let first = lists_of c.take_next.new.picked.items in
    let now = lists_of c.leave_length.new.picked.items in
    let x = get_or own.supply.items c.args.from (pos 0) in
    let some : pos 1 ≤ℤ c.args.rest.now = search rules in
    let within : c.args.from < length own.supply.items = search rules in
    let here : get_or own.supply.items c.args.from x ≡ x = get_or_default own.supply.items c.args.from x (pos 0) within in
    let none = taken_kind tools wants before own.supply.items c.may_make_up.new.self.supply.items own.pieces.items c.may_make_up.new.self.pieces.items c.args.from x false first
    c.may_make_up.ensures.same_supply c.may_make_up.ensures.same_pieces here c.if-take_next.ensures.found in
    left_finds tools wants before own.want own.supply.items own.pieces.items c.args.from c.args.rest.now x c.leave_length.result now state.next state.at some within here none.0
    (left_kind tools wants before first own.supply.items c.take_next.new.search.supply.items own.pieces.items c.take_next.new.search.pieces.items c.args.from x c.leave_length.result now
    (c.if-take_next.ensures.same_supply refl ∙ c.may_make_up.ensures.same_supply) (c.if-take_next.ensures.same_pieces refl ∙ c.may_make_up.ensures.same_pieces) none.1 here
    c.leave_length.ensures.found)

pub make_up-leave_length-requires : goal.make_up-leave_length-requires
make_up-leave_length-requires t c =
    let tools = tools_data c.args.tools.now in
    let wants = c.args.wants.now in
    let before = lists_of c.args.picked.now.items in
    let own = c.args.search.now in
    let after = c.take_next.new.search in
    let first = lists_of c.take_next.new.picked.items in
    let x = get_or own.supply.items c.args.from (pos 0) in
    let within : c.args.from < length own.supply.items = search rules in
    let here : get_or own.supply.items c.args.from x ≡ x = get_or_default own.supply.items c.args.from x (pos 0) within in
    let none = taken_kind tools wants before own.supply.items c.may_make_up.new.self.supply.items own.pieces.items c.may_make_up.new.self.pieces.items c.args.from x false first
    c.may_make_up.ensures.same_supply c.may_make_up.ensures.same_pieces here c.if-take_next.ensures.found in
    let same_supply = c.if-take_next.ensures.same_supply refl ∙ c.may_make_up.ensures.same_supply in
    let same_pieces = c.if-take_next.ensures.same_pieces refl ∙ c.may_make_up.ensures.same_pieces in
    let same_want = c.if-take_next.ensures.same_want refl ∙ c.may_make_up.ensures.same_want in
    let size = same_size c.take_next.new.picked.items c.args.picked.now.items none.1 in
    let long : length after.supply.items ≡ length own.supply.items = ap length same_supply in (
      omega (arith, c.decreases, size, long),
      (
        moved_state tools wants before first own.want after.want own.supply.items after.supply.items own.pieces.items after.pieces.items c.args.from c.args.rest.now
            none.1 same_want same_supply same_pieces c.requires.state,
        omega (arith, long, within),
      ),
    )

pub pick_rest-returns-then-served-wants : goal.pick_rest-returns-then-served-wants
pick_rest-returns-then-served-wants t c =
    let tools = tools_data c.args.tools.now in
    let wants = c.args.wants.now in
    let before = lists_of c.args.picked.now.items in
    let full : length c.args.picked.now.items ≡ length wants = search rules in
    first_full tools wants before c.requires.part (size_of c.args.picked.now.items ∙ full)

pub pick_rest-make_up-requires : goal.pick_rest-make_up-requires
pick_rest-make_up-requires t c =
    let tools = tools_data c.args.tools.now in
    let wants = c.args.wants.now in
    let before = lists_of c.args.picked.now.items in
    let no_want : Want = record { punch = 0; die = 0; length = pos 0 } in
    let want = get_or wants c.len-served.result no_want in
    let left = subst (λ (ps : List (ArrayVec ℤ)). IsLeftFor tools wants (lists_of ps) want c.supply_for-supply.result.items) c.as_slice-2.ensures.value c.supply_for-supply.ensures.left in
    let made = c.new-search.result in
    let size = size_of c.args.picked.now.items in
    let place : length before ≡ c.len-served.result = omega (arith, size, c.len-served.ensures) in
    let within : length before < length wants = search (rules, size, place) in
    let next = next_want wants before want no_want within (ap (λ n. get_or wants n no_want) place) in
    let long : length made.supply.items ≡ length c.supply_for-supply.result.items = ap length c.new-search.ensures.supply in (
      omega (arith, c.decreases, long, within, size, c.supply_for-supply.ensures.few),
      start_state tools wants before made.want want made.supply.items c.supply_for-supply.result.items made.pieces.items want.length
          c.requires.asked c.requires.part next left c.new-search.ensures.want c.new-search.ensures.supply c.new-search.ensures.pieces refl,
    )

pub pick_rest-returns : goal.pick_rest-returns
pick_rest-returns t c =
    let tools = tools_data c.args.tools.now in
    let wants = c.args.wants.now in
    let before = lists_of c.args.picked.now.items in
    let no_want : Want = record { punch = 0; die = 0; length = pos 0 } in
    let want = get_or wants c.len-served.result no_want in
    let left = subst (λ (ps : List (ArrayVec ℤ)). IsLeftFor tools wants (lists_of ps) want c.supply_for-supply.result.items) c.as_slice-2.ensures.value c.supply_for-supply.ensures.left in
    let made = c.new-search.result in
    let now = lists_of c.make_up.new.picked.items in
    let size = size_of c.args.picked.now.items in
    let place : length before ≡ c.len-served.result = omega (arith, size, c.len-served.ensures) in
    let within : length before < length wants = search (rules, size, place) in
    let next = next_want wants before want no_want within (ap (λ n. get_or wants n no_want) place) in
    start_finds tools wants before want c.supply_for-supply.result.items c.make_up.result now next c.supply_for-supply.ensures.supply left
    (moved_start tools wants before c.supply_for-supply.result.items made.supply.items made.pieces.items c.make_up.result now c.new-search.ensures.supply c.new-search.ensures.pieces
    c.make_up.ensures.found)

pub take_next-returns-then-piece-rest-clause-found :
    goal.take_next-returns-then-piece-rest-clause-found
take_next-returns-then-piece-rest-clause-found t c =
    let own = c.args.search.now in
    let state = c.requires.state in
    let x = get_or own.supply.items c.args.from (pos 0) in
    let fits : FitsSigned w64 x = search rules in
    λ piece here.
    let same : x ≡ piece = get_or_default own.supply.items c.args.from (pos 0) piece c.requires.from ∙ here in
    let less : c.args.rest.now <ℤ x = search rules in (
      too_long (tools_data c.args.tools.now) c.args.wants.now (lists_of c.args.picked.now.items) own.want own.supply.items own.pieces.items c.args.from c.args.rest.now piece
          state.next own.supply_is state.at (subst (λ z. c.args.rest.now <ℤ z) same less),
      refl,
    )

pub take_next-make_up-requires : goal.take_next-make_up-requires
take_next-make_up-requires t c =
    let own = c.args.search.now in
    let supply = own.supply.items in
    let read = c.deref.result.now in
    let same : read ≡ supply = c.deref.ensures.0 in
    let x = get_or read c.args.from (pos 0) in
    let within : c.args.from < length read = omega (arith, ap length same, c.requires.from) in
    let here : get_or supply c.args.from x ≡ x = ap (λ (xs : List ℤ). get_or xs c.args.from x) (sym same) ∙ get_or_default read c.args.from x (pos 0) within in
    let fits : FitsSigned w64 x = search rules in
    let rest : FitsSigned w64 c.args.rest.now = search rules in
    let less : FitsSigned w64 (c.args.rest.now -ℤ x) = search rules in
    let small : x ≤ℤ c.args.rest.now = search rules in
    let pushed : c.push.new.self.items ≡ own.pieces.items ++ x ∷ [] = simp to_z-of_z at c.push.ensures.items in
    let over : to_z w64 (of_z w64 (to_z w64 (of_z w64 c.args.rest.now) -ℤ to_z w64 (of_z w64 x))) ≡ (c.args.rest.now -ℤ x) = simp to_z-of_z in (
      omega (arith, c.decreases, c.requires.from),
      next_state (tools_data c.args.tools.now) c.args.wants.now (lists_of c.args.picked.now.items) own.want supply own.pieces.items c.push.new.self.items c.args.from c.args.rest.now x
          (to_z w64 (of_z w64 (to_z w64 (of_z w64 c.args.rest.now) -ℤ to_z w64 (of_z w64 x)))) c.requires.state c.requires.from here small pushed over,
    )

pub take_next-returns-then-make_up-clause-found : goal.take_next-returns-then-make_up-clause-found
take_next-returns-then-make_up-clause-found t c =
    let tools = tools_data c.args.tools.now in
    let wants = c.args.wants.now in
    let before = lists_of c.args.picked.now.items in
    let own = c.args.search.now in
    let supply = own.supply.items in
    let now = lists_of c.make_up.new.picked.items in
    let read = c.deref.result.now in
    let same : read ≡ supply = c.deref.ensures.0 in
    let x = get_or read c.args.from (pos 0) in
    let fits : FitsSigned w64 x = search rules in
    let pushed : c.push.new.self.items ≡ own.pieces.items ++ x ∷ [] = simp to_z-of_z at c.push.ensures.items in
    λ piece here.
    let x_is : x ≡ piece = ap (λ (xs : List ℤ). get_or xs c.args.from (pos 0)) same ∙ get_or_default supply c.args.from (pos 0) piece c.requires.from ∙ here in
    let longer : c.push.new.self.items ≡ own.pieces.items ++ piece ∷ [] = pushed ∙ ap (λ (z : ℤ). own.pieces.items ++ z ∷ []) x_is in
    subst (λ (p : List ℤ). IsFirst tools wants (GoesOn before p (drop (c.args.from + 1) supply)) now) longer c.if-make_up.ensures.found

pub leave_length-make_up-requires : goal.leave_length-make_up-requires
leave_length-make_up-requires t c =
    let own = c.args.search.now in
    let x = get_or own.supply.items c.args.from (pos 0) in
    let here : get_or own.supply.items c.args.from x ≡ x = get_or_default own.supply.items c.args.from x (pos 0) c.requires.from in (
      omega (arith, c.decreases, c.after-next.ensures.after, c.after-next.ensures.within),
      shorter_state (tools_data c.args.tools.now) c.args.wants.now (lists_of c.args.picked.now.items) own.want own.supply.items own.pieces.items c.args.from c.after-next.result c.args.rest.now x
          c.requires.state c.requires.from here c.after-next.ensures.within (c.after-next.ensures.value x here),
    )
