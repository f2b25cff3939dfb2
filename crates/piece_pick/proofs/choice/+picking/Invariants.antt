use Rattle.std.proofs.Common.{◌+◌, ◌*◌, ◌-◌, length}
use Rattle.piece_pick.proofs.choice.+picking.Given as goal

-- the wants that have no pieces, and what is left of the next one's supply
abbrev pub decreases-pick_rest : goal.decreases-pick_rest
decreases-pick_rest l = 2048 * (length l.wants.now - length l.picked.now.items)

abbrev pub decreases-make_up : goal.decreases-make_up
decreases-make_up l = 2048 * (length l.wants.now - length l.picked.now.items - 1) + 2 * (length l.search.now.supply.items - l.from) + 4

abbrev pub decreases-take_next : goal.decreases-take_next
decreases-take_next l = 2048 * (length l.wants.now - length l.picked.now.items - 1) + 2 * (length l.search.now.supply.items - l.from) + 3

abbrev pub decreases-leave_length : goal.decreases-leave_length
decreases-leave_length l = 2048 * (length l.wants.now - length l.picked.now.items - 1) + 2 * (length l.search.now.supply.items - l.from) + 3

abbrev pub decreases-finish : goal.decreases-finish
decreases-finish l = 2048 * (length l.wants.now - length l.picked.now.items - 1) + 1
