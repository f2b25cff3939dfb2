use Rattle.std.proofs.Common.{rules}
use Rattle.std.proofs.lemmas.Bool.{eqb-true, eq-eqb}
use Rattle.stage_lanes.proofs.StageLemmas.{empty_is}
use Rattle.stage_lanes.proofs.stages.StageSet.is_empty.Goals as goal

pub returns : goal.returns
returns c =
    let set = empty_is c.args.self (search rules) in
    (λ yes. set.0 (eqb-true _ _ yes), λ none. eq-eqb _ _ (set.1 none))
