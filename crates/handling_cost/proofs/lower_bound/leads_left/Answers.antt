use Rattle.std.proofs.Common.{◌≡◌, ◌∙◌, ℕ, ◌+◌, ◌-◌, ◌<◌, ap, sym, length, filter, arith}
use Rattle.std.specs.List.{range_with_len}
use Rattle.fold_boxes.specs.Shapes.{ShapeData}
use Rattle.job_setup.specs.Setup.{bend_count}
use Rattle.job_setup.specs.StrokeGroup.{is_lead}
use Rattle.handling_cost.proofs.Counts.{at_most_all}
use Rattle.handling_cost.proofs.LeadTests.{count_next, leads_skip}
use Rattle.handling_cost.proofs.lower_bound.leads_left.Goals.{then-is_lead, else-is_lead}
use Rattle.handling_cost.proofs.lower_bound.leads_left.Goals as goal

pub overflow_add-leads : goal.overflow_add-leads
overflow_add-leads c =
    let all = at_most_all (is_lead c.args.job.now c.args.mask) 1 (c.loop-bend.bend - 1) in
    omega (arith, c.loop-bend.invariant, all, c.loop-bend-test.true, c.faces-bend-end.ensures.few)

pub loop-bend-preserved : goal.loop-bend-preserved
loop-bend-preserved c =
    let lead = is_lead c.args.job.now c.args.mask in
    let bend = c.loop-bend.bend in
    let some : 0 < bend = omega (arith, c.loop-bend.auto.bend) in
    elim c.if-is_lead.branch [
      | then-is_lead w ↦ w.leads-is ∙ ap (λ (n : ℕ). n + 1) c.loop-bend.invariant ∙ sym (count_next lead bend some (sym c.is_lead.ensures ∙ w.if-is_lead.true))
      | else-is_lead w ↦ w.leads-is ∙ c.loop-bend.invariant ∙ ap length (sym (leads_skip lead bend some (sym c.is_lead.ensures ∙ w.if-is_lead.false)))
    ]

pub returns-clause-value : goal.returns-clause-value
returns-clause-value c =
    let faces = c.faces-bend-end.ensures.value ∙ ap (λ (s : ShapeData). length s.part.faces) c.shape-shape.ensures.value in
    let last = c.loop-bend.auto.bend-end c.faces-bend-end.ensures.some in
    let all : c.loop-bend.bend - 1 ≡ bend_count c.args.job.now = omega (arith, faces, last, c.loop-bend-test.false) in
    c.loop-bend.invariant ∙ ap (λ (n : ℕ). length (filter (is_lead c.args.job.now c.args.mask) (range_with_len 1 n))) all

pub returns-clause-few : goal.returns-clause-few
returns-clause-few c =
    let most = at_most_all (is_lead c.args.job.now c.args.mask) 1 (c.loop-bend.bend - 1) in
    let last = c.loop-bend.auto.bend-end c.faces-bend-end.ensures.some in
    omega (arith, c.loop-bend.invariant, most, last, c.faces-bend-end.ensures.few)
