use Rattle.std.proofs.Common.{length}
use Rattle.sheet_page.proofs.no_plan.+put_dead_ends.Given as goal

-- how many states are left
abbrev pub decreases-put_dead_ends : goal.decreases-put_dead_ends
decreases-put_dead_ends l = length l.states.now
