use Rattle.std.proofs.Common.{◌+◌, length, arith, sym, ◌∙◌, ap, subst}
use Rattle.fold_boxes.specs.Shapes.{ShapeData}
use Rattle.set_facts.proofs.Leads.{HasLeadsBelow, leads_start, leads_more, leads_less}
use Rattle.set_facts.proofs.facts.leads_of.Goals.{then-is_lead, else-is_lead}
use Rattle.set_facts.proofs.facts.leads_of.Goals as goal

pub loop-bend-init : goal.loop-bend-init
loop-bend-init c = leads_start c.args.job.now c.args.mask c.empty-leads.result c.empty-leads.ensures.value

pub loop-bend-preserved : goal.loop-bend-preserved
loop-bend-preserved c =
    let job = c.args.job.now in
    let mask = c.args.mask in
    let bend = c.loop-bend.bend in
    let leads = c.loop-bend.leads in
    elim c.if-is_lead.branch [
      | then-is_lead w ↦ subst (HasLeadsBelow job mask (bend + 1)) (sym w.leads-is)
          (leads_more job mask leads w.with-leads.result bend c.loop-bend.invariant (sym c.is_lead.ensures ∙ w.if-is_lead.true) w.with-leads.ensures)
      | else-is_lead w ↦ subst (HasLeadsBelow job mask (bend + 1)) (sym w.leads-is)
          (leads_less job mask leads bend c.loop-bend.invariant (sym c.is_lead.ensures ∙ w.if-is_lead.false))
    ]

pub returns-clause-leads : goal.returns-clause-leads
returns-clause-leads c = λ b first last.
    let count = c.faces-bend-end.ensures.value in
    let faces = ap (λ (s : ShapeData). length s.part.faces) c.shape-shape.ensures.value in
    let some = c.faces-bend-end.ensures.some in
    let end = c.loop-bend-test.false in
    c.loop-bend.invariant.below b first (omega (arith, last, count, faces, some, end))

pub returns-clause-only : goal.returns-clause-only
returns-clause-only c = λ b past.
    let count = c.faces-bend-end.ensures.value in
    let faces = ap (λ (s : ShapeData). length s.part.faces) c.shape-shape.ensures.value in
    c.loop-bend.invariant.above b (omega (arith, past, count, faces, c.loop-bend.auto.bend))
