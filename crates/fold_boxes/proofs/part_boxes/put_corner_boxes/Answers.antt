use Rattle.std.proofs.Common.{◌≡◌, ◌∙◌, ◌<◌, ◌∷◌, [], ◌++◌, length, ap, sym, subst, arith, All}
use Rattle.unfolder.proofs.Listing.{all_pushed}
use Rattle.brake_base.specs.Masks.{has}
use Rattle.fold_boxes.specs.Folded.{corner_box, IsNearBox, IsBoxId}
use Rattle.fold_boxes.proofs.Picked.{pick_next, put_at_end, put_nothing}
use Rattle.fold_boxes.proofs.part_boxes.put_corner_boxes.Goals.{then-contains, else-contains}
use Rattle.fold_boxes.proofs.part_boxes.put_corner_boxes.Goals as goal

pub loop-bend-preserved : goal.loop-bend-preserved
loop-bend-preserved c =
    let shape = c.args.shape.now in
    let mask = c.args.mask in
    let bend = c.loop-bend.bend in
    let before = c.loop-bend.boxes.items in
    let after = c.if-contains.boxes.items in
    let some : 0 < bend = omega (arith, c.loop-bend.auto.bend) in
    elim c.if-contains.branch [
      | then-contains w ↦
          let tested = sym c.contains.ensures ∙ w.if-contains.true in
          let items = ap (λ b. b.items) w.boxes-is in
          let pushed : after ≡ before ++ w.corner_box.result ∷ [] = items ∙ w.push.ensures.items in
          let long = ap length items in
          record {
            room = omega (arith, w.push.ensures.len, c.loop-bend.invariant.room, long);
            value = pick_next (corner_box shape mask) (has mask) bend _ before after some c.loop-bend.invariant.value (put_at_end (has mask bend) before after _ tested (pushed ∙ ap (λ b. before ++ b ∷ []) w.corner_box.ensures.value));
            near = all_pushed IsNearBox before after _ pushed c.loop-bend.invariant.near w.corner_box.ensures.near;
            ids = all_pushed IsBoxId before after _ pushed c.loop-bend.invariant.ids w.corner_box.ensures.id;
          }
      | else-contains w ↦
          let tested = sym c.contains.ensures ∙ w.if-contains.false in
          let same : after ≡ before = ap (λ b. b.items) w.boxes-is in
          let long = ap length same in
          record {
            room = omega (arith, c.loop-bend.invariant.room, long);
            value = pick_next (corner_box shape mask) (has mask) bend _ before after some c.loop-bend.invariant.value (put_nothing (has mask bend) before after (corner_box shape mask bend) tested same);
            near = subst (All IsNearBox) (sym same) c.loop-bend.invariant.near;
            ids = subst (All IsBoxId) (sym same) c.loop-bend.invariant.ids;
          }
    ]
