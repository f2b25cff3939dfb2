use Rattle.action_lanes.proofs.CheapestLemmas.{first_cheapest}
use Rattle.bb_search.proofs.settle.next_open.Goals as goal
use Rattle.bb_search.proofs.settle.next_open.Goals.{then-is_empty, else-is_empty}

pub returns-then-cost-limit-clause-some : goal.returns-then-cost-limit-clause-some
returns-then-cost-limit-clause-some c =
    first_cheapest c.args.sums.now c.args.untested c.if-is_empty.cheapest
    (elim c.if-is_empty.branch [
      | then-is_empty w ↦ rw w.cheapest-is w.cheapest.ensures.cheapest
      | else-is_empty w ↦ rw w.cheapest-is c.requires.cheapest
    ])
    c.in_ok-action.action c.in_ok-action.ensures.some
