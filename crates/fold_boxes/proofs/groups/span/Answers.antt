use Rattle.std.proofs.Common.{◌∙◌, ◌<◌, ap, sym, subst, Option, Some, ℤ, arith}
use Rattle.std.specs.Prelude.{IfSome}
use Rattle.brake_base.specs.Masks.{has}
use Rattle.fold_boxes.specs.Spans.{enclosing_range, IsNearRange}
use Rattle.fold_boxes.proofs.Spans.{cover_next, skip_next}
use Rattle.fold_boxes.proofs.groups.span.Goals.{then-contains, else-contains}
use Rattle.fold_boxes.proofs.groups.span.Goals as goal

pub loop-bend-preserved : goal.loop-bend-preserved
loop-bend-preserved c =
    let shape = c.args.shape.now in
    let set = has c.args.group in
    let bend = c.loop-bend.bend in
    let some : 0 < bend = omega (arith, c.loop-bend.auto.bend) in
    elim c.if-contains.branch [
      | then-contains w ↦
          let tested = sym c.contains.ensures ∙ w.if-contains.true in
          record {
            value = w.range-is ∙ ap Some (w.enclosing_range.ensures.value ∙ (λ i. enclosing_range (c.loop-bend.invariant.value i) (w.line_range.ensures.from i, w.line_range.ensures.to i))) ∙ sym (cover_next shape set bend some tested);
            near = subst (λ (r : Option (ℤ × ℤ)). IfSome r IsNearRange) (sym w.range-is) (w.enclosing_range.ensures.near c.loop-bend.invariant.near w.line_range.ensures.near);
          }
      | else-contains w ↦
          let tested = sym c.contains.ensures ∙ w.if-contains.false in
          record {
            value = w.range-is ∙ c.loop-bend.invariant.value ∙ sym (skip_next shape set bend some tested);
            near = subst (λ (r : Option (ℤ × ℤ)). IfSome r IsNearRange) (sym w.range-is) c.loop-bend.invariant.near;
          }
    ]
