use Rattle.std.proofs.Common.{◌≡◌, ◌<◌, ◌+◌, ◌*◌, ◌&&◌, Bool, true, false, arith, refl, sym, ap, subst, ◌∙◌}
use Rattle.std.specs.Prelude.{slice_index, nat_lt, IsTrue}
use Rattle.std.proofs.lemmas.Bool.{lt-ltb}
use Rattle.brake_base.specs.declared.mask.Mask.{Mask}
use Rattle.stage_lanes.specs.ActionSets.{side_of}
use Rattle.stage_lanes.specs.Stages
use Rattle.action_lanes.specs.Costs.{cost_at}
use Rattle.job_setup.specs.StrokeGroup.{is_lead}
use Rattle.handling_cost.specs.StepCost.{attitude_at, change, change_cost}
use Rattle.cert_check.specs.ProvedCosts.{IsProvedCost, key_behind}
use Rattle.cert_check.specs.ClosingCosts.{turn_cost}
use Rattle.cert_check.proofs.RowLaneLemmas.{lane_met, all_met, not_less}
use Rattle.cert_check.proofs.row_lanes.is_met.Goals as goal

pub plus-costs-requires : goal.plus-costs-requires
plus-costs-requires c = record {
  room = λ stage wide. let closing = c.requires.small stage wide in let onward = c.onward.ensures.small stage wide in omega (arith, closing, onward);
}

pub returns : goal.returns
returns c = λ yes rows proved noted same are closing.
    let job = c.args.job.now in
    let head = c.args.head.now in
    let few = c.recall_valid.ensures.setup.stages.few_stages in
    let stages = c.stages.ensures.value in
    all_met job rows head noted (λ bend first low is back stage inside.
    let wide : stage < 8 = omega (arith, few, inside) in
    let lead : IsTrue (is_lead job proved.mask bend) = subst (λ (m : Mask). is_lead job m bend ≡ true) (sym same) is in
    let shut : (Stages.has c.below-unclosed.result stage && Stages.has c.first.result stage) ≡ false =
    sym (c.intersection.ensures.stages stage wide) ∙ (c.is_empty.ensures.0 yes) stage wide in
    let all : Stages.has c.first.result stage ≡ true = c.first.ensures.stages stage wide ∙ lt-ltb stage c.stages.result (omega (arith, stages, inside)) in
    let not_below : nat_lt (slice_index c.plus-costs.result.0 stage) c.cost_of_worth.result ≡ false =
    sym (c.below-unclosed.ensures.stages stage wide) ∙ alone (Stages.has c.below-unclosed.result stage) (Stages.has c.first.result stage) all shut in
    let most = not_less (slice_index c.plus-costs.result.0 stage) c.cost_of_worth.result not_below in
    let worth = c.cost_of_worth.ensures in
    let sum = c.plus-costs.ensures.lanes stage wide in
    lane_met job c.recall_valid.ensures rows head c.requires.head bend back stage first (omega (arith, low)) inside noted
    (slice_index c.onward.result.0 stage) (turn_cost job proved head.key.attitude bend back stage)
    (cost_at proved.costs (8 * side_of bend back + stage)) (slice_index c.args.closing.0 stage)
    (subst (λ (m : Mask). IsProvedCost job rows (key_behind job m bend back stage) (cost_at proved.costs (8 * side_of bend back + stage))) same
    (are.costs.each bend first low lead back stage inside))
    (c.onward.ensures.each stage inside)
    (ap (λ (m : Mask). change_cost job.setup.cost (change head.key.attitude (attitude_at job m (record { bend = bend; back = back; stage = stage })))) same)
    (closing.each bend first low lead back stage inside)
    (omega (arith, most, worth, sum)))
  where
    alone : (a b : Bool) → b ≡ true → (a && b) ≡ false → a ≡ false
    alone true true is e = e
    alone true false is e = absurd (cc)
    alone false b is e = refl
