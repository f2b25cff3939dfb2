use Rattle.std.proofs.Common.{◌≡◌, ◌<◌, ◌∙◌, length, ap, sym, subst, arith, rules}
use Rattle.unfolder.specs.Cores.{joint_of}
use Rattle.brake_base.specs.declared.space.Place.{Place}
use Rattle.unfolder.proofs.Listing.{all_pushed}
use Rattle.fold_boxes.specs.Places.{IsPlaceOf}
use Rattle.fold_boxes.proofs.Folding.{read_place, push_place, root_place}
use Rattle.fold_boxes.proofs.places.place_faces.Goals as goal

abbrev IsTurned : Place → Type 0
IsTurned place = place.turn < 24

pub loop-bend-init : goal.loop-bend-init
loop-bend-init c =
    let none : length c.new-places.result.items ≡ 0 = ap length c.new-places.ensures in
    record {
      count = omega (arith, c.push.ensures.len, none);
      each = push_place c.args.shape.now c.args.mask _ _ 0 _ c.push.ensures.items (λ f d inside. absurd (omega (arith, inside, none))) none (root_place c.args.shape.now c.args.mask _ c.root.ensures.value c.root.ensures.near);
      turns = all_pushed IsTurned _ _ _ c.push.ensures.items (λ f d inside. absurd (omega (arith, inside, none))) c.root.ensures.turn;
    }

pub child_place-child-requires-clause-parent : goal.child_place-child-requires-clause-parent
child_place-child-requires-clause-parent c =
    let shape = c.args.shape.now in
    let mask = c.args.mask in
    let places = c.loop-bend.places.items in
    let bend = c.loop-bend.bend in
    let on = (joint_of shape.part.faces bend).on in
    let earlier : on < length places = omega (arith, c.parent.ensures.earlier, c.parent.ensures.value, c.loop-bend.invariant.count) in
    let read = read_place shape mask places c.as_slice.result.now c.from.result on c.index-as_slice-from.result c.loop-bend.invariant.each c.as_slice.ensures.value (c.from.ensures ∙ c.parent.ensures.value) earlier in
    subst (IsPlaceOf shape mask on) (sym c.index-as_slice-from.is) read

pub loop-bend-preserved : goal.loop-bend-preserved
loop-bend-preserved c = record {
  count = omega (arith, c.push-in-loop-bend.ensures.len, c.loop-bend.invariant.count);
  each = push_place c.args.shape.now c.args.mask c.loop-bend.places.items _ c.loop-bend.bend _ c.push-in-loop-bend.ensures.items c.loop-bend.invariant.each c.loop-bend.invariant.count c.child_place-child.ensures;
  turns = all_pushed IsTurned c.loop-bend.places.items _ _ c.push-in-loop-bend.ensures.items c.loop-bend.invariant.turns (search rules);
}
