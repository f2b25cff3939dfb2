use Rattle.std.proofs.Common.{◌≡◌, ◌∙◌, ℕ, ◌-◌, ◌<◌, ap, sym, length, map, filter, arith}
use Rattle.std.specs.Prelude.{max}
use Rattle.std.specs.List.{range_with_len}
use Rattle.fold_boxes.specs.Shapes.{ShapeData}
use Rattle.job_setup.specs.Setup.{bend_count}
use Rattle.job_setup.specs.StrokeGroup.{is_lead}
use Rattle.handling_cost.specs.Bound.{greatest, nearest, meeting_stages, farthest}
use Rattle.handling_cost.proofs.LeadTests.{greatest_next, leads_skip}
use Rattle.handling_cost.proofs.Small.{farthest_small}
use Rattle.handling_cost.proofs.lower_bound.farthest.Goals.{then-is_lead, else-is_lead}
use Rattle.handling_cost.proofs.lower_bound.farthest.Goals as goal

pub loop-bend-preserved : goal.loop-bend-preserved
loop-bend-preserved c =
    let lead = is_lead c.args.job.now c.args.mask in
    let way = λ (b : ℕ). nearest c.args.stage (meeting_stages c.args.job.now c.args.mask b) in
    let bend = c.loop-bend.bend in
    let some : 0 < bend = omega (arith, c.loop-bend.auto.bend) in
    elim c.if-is_lead.branch [
      | then-is_lead w ↦
          w.farthest-is ∙ w.greater-farthest.ensures ∙ (λ i. max (c.loop-bend.invariant i) (w.nearest.ensures i))
          ∙ sym (greatest_next lead way bend some (sym c.is_lead.ensures ∙ w.if-is_lead.true))
      | else-is_lead w ↦ w.farthest-is ∙ c.loop-bend.invariant ∙ ap (λ bs. greatest (map way bs)) (sym (leads_skip lead bend some (sym c.is_lead.ensures ∙ w.if-is_lead.false)))
    ]

pub returns-clause-value : goal.returns-clause-value
unfolding farthest
returns-clause-value c =
    let way = λ (b : ℕ). nearest c.args.stage (meeting_stages c.args.job.now c.args.mask b) in
    let faces = c.faces-bend-end.ensures.value ∙ ap (λ (s : ShapeData). length s.part.faces) c.shape-shape.ensures.value in
    let last = c.loop-bend.auto.bend-end c.faces-bend-end.ensures.some in
    let all : c.loop-bend.bend - 1 ≡ bend_count c.args.job.now = omega (arith, faces, last, c.loop-bend-test.false) in
    c.loop-bend.invariant ∙ ap (λ (n : ℕ). greatest (map way (filter (is_lead c.args.job.now c.args.mask) (range_with_len 1 n)))) all

pub returns-clause-few : goal.returns-clause-few
returns-clause-few c =
    let value = returns-clause-value c in
    let few = farthest_small c.args.job.now c.shape-shape.ensures.valid c.args.mask c.args.stage c.requires.stage in
    omega (arith, value, few)
