use Rattle.std.proofs.Common.{◌≡◌, ◌∙◌, ℕ, Bool, false, Some, ap, sym, filter, get_or, arith}
use Rattle.std.specs.Prelude.{Option, unwrap_or}
use Rattle.std.specs.List.{range_with_len}
use Rattle.handling_cost.specs.Bound.{nearest}
use Rattle.handling_cost.specs.Nearest.{lesser}
use Rattle.handling_cost.proofs.LeadTests.{nearest_next, nearest_skip, nearest_or_none}
use Rattle.set_facts.proofs.set_lanes.nearest.Goals.{then-marked-from, else-marked-from}
use Rattle.set_facts.proofs.set_lanes.nearest.Goals as goal

pub loop-stage-preserved : goal.loop-stage-preserved
loop-stage-preserved c =
    let is_marked : ℕ → Bool = λ stage. get_or c.args.marked.now stage false in
    let from = c.args.from in
    let stage = c.loop-stage.stage in
    let here : is_marked stage ≡ is_marked c.from.result = ap is_marked (sym c.from.ensures) in
    elim c.if-marked-from.branch [
      | then-marked-from w ↦
          w.nearest-is ∙ ap Some (w.lesser.ensures ∙ (λ i. lesser (c.loop-stage.invariant i) (w.abs_diff.ensures i)))
          ∙ sym (nearest_next is_marked from stage (here ∙ w.if-marked-from.true))
      | else-marked-from w ↦ w.nearest-is ∙ c.loop-stage.invariant ∙ sym (nearest_skip is_marked from stage (here ∙ w.if-marked-from.false))
    ]

pub returns : goal.returns
returns c =
    let is_marked : ℕ → Bool = λ stage. get_or c.args.marked.now stage false in
    let from = c.args.from in
    let all : c.loop-stage.stage ≡ c.args.stages = omega (arith, c.loop-stage-test.false, c.loop-stage.auto.stage-end) in
    c.unwrap_or.ensures ∙ ap (λ (o : Option ℕ). unwrap_or o 0) c.loop-stage.invariant
    ∙ nearest_or_none from (filter is_marked (range_with_len 0 c.loop-stage.stage)) ∙ ap (λ (n : ℕ). nearest from (filter is_marked (range_with_len 0 n))) all
