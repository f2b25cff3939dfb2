use Rattle.std.proofs.Common.{◌+◌, ◌*◌, ◌-◌, length}
use Rattle.piece_pick.proofs.piece_search.PieceSearch.+making_up.Given as goal

-- what is left of the supply
abbrev pub decreases-may_make_up : goal.decreases-may_make_up
decreases-may_make_up l = 3 * (length l.self.now.supply.items - l.from) + 2

abbrev pub decreases-may_go_on : goal.decreases-may_go_on
decreases-may_go_on l = 3 * (length l.self.now.supply.items - l.from) + 1

abbrev pub decreases-may_take : goal.decreases-may_take
decreases-may_take l = 3 * (length l.self.now.supply.items - l.from)
