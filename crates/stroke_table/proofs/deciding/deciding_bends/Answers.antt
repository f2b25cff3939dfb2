use Rattle.std.proofs.Common.{◌≡◌, ◌∙◌, ◌+◌, ◌*◌, ◌/◌, ◌%◌, ◌<◌, ◌≤◌, List, [], ◌∷◌, length, sym, ap, subst, arith}
use Rattle.std.proofs.lemmas.List.{length-append}
use Rattle.brake_base.specs.declared.mask.Mask.{Mask}
use Rattle.stroke_table.proofs.DecidingBends.{AreFirst, set_more}
use Rattle.stroke_table.proofs.deciding.deciding_bends.Goals as goal

pub loop-place-preserved : goal.loop-place-preserved
loop-place-preserved c =
    let job = c.args.job.now in
    let place = c.loop-place.place in
    let sets = c.loop-place.deciding.items in
    let one = c.bends_from.result in
    let so_far = c.loop-place.invariant in
    let long = length-append sets (one ∷ []) in
    let at : 25 * (place / 25) + place % 25 ≡ place = omega arith in
    let small : place % 25 < 25 = omega arith in
    record {
      count = ap (λ (xs : List Mask). length xs) c.push_reserved.ensures.items ∙ omega (arith, long, so_far.count);
      room = omega (arith, so_far.room, c.push_reserved.ensures.capacity);
      each = subst (λ (xs : List Mask). AreFirst job xs (place + 1)) (sym c.push_reserved.ensures.items) (set_more job sets place one (place / 25) (place % 25) so_far.count at small c.bends_from.ensures so_far.each);
    }

pub returns : goal.returns
returns c = record {
  count = omega (arith, c.loop-place.invariant.count, c.loop-place-test.false, c.loop-place.auto.place-end);
  each = λ from number inside few face.
      let faces : length c.args.job.now.part.faces ≤ 13 = c.recall_valid.ensures.part.few_faces in
      c.loop-place.invariant.each from number (omega (arith, inside, few, faces, c.loop-place-test.false)) inside few face;
}
