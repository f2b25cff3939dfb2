use Rattle.std.proofs.Common.{◌≡◌, ◌∙◌, ◌<◌, ◌+◌, ◌-◌, List, [], ◌∷◌, ◌++◌, length, get_or, slice_set, refl, sym, ap, subst, arith}
use Rattle.std.proofs.lemmas.List.{length_push}
use Rattle.brake_base.specs.declared.space.Place.{Place}
use Rattle.brake_base.specs.declared.mask.Mask.{Mask}
use Rattle.brake_base.specs.Masks.{union}
use Rattle.fold_boxes.specs.Places.{IsPlaceOf}
use Rattle.undo_region.specs.Room.{ListWithRoom}
use Rattle.bend_state.specs.State.{moves}
use Rattle.bend_state.proofs.Moving.{IsMoving, begins, moves_one, stays_one, some_room}
use Rattle.bend_state.proofs.moves.move_faces.Goals as goal
use Rattle.bend_state.proofs.moves.move_faces.Goals.{then-contains, else-contains}

pub loop-face-init : goal.loop-face-init
loop-face-init c = record {
  moving = begins c.args.shape.now c.faces-face-end.ensures.rules c.args.before c.args.group c.args.places.now c.args.trail.now.items c.requires.count c.requires.each;
  left = refl;
}

pub push-requires : goal.push-requires
push-requires c =
    let shape = c.args.shape.now in
    let face = c.loop-face.face in
    let records = c.args.trail.now in
    let now = c.loop-face.invariant in
    let count = c.faces-face-end.ensures.value in
    record {
      has_room = some_room shape c.args.before c.args.group (length records.items) face records.items c.loop-face.places c.loop-face.trail.items c.loop-face.trail.room records.room
          (omega (arith, c.loop-face.auto.face)) (omega (arith, c.loop-face-test.true, count)) (omega (arith, c.faces-face-end.ensures.few, count)) c.requires.room now.moving now.left;
    }

pub loop-face-preserved : goal.loop-face-preserved
loop-face-preserved c =
    let shape = c.args.shape.now in
    let rules = c.faces-face-end.ensures.rules in
    let before = c.args.before in
    let group = c.args.group in
    let face = c.loop-face.face in
    let records = c.args.trail.now in
    let now = c.loop-face.invariant in
    let count = c.faces-face-end.ensures.value in
    let some : 0 < face = omega (arith, c.loop-face.auto.face) in
    let inside : face < length shape.part.faces = omega (arith, c.loop-face-test.true, count) in
    let beyond : c.contains.result ≡ moves shape group face = c.contains.ensures ∙ c.faces_beyond-beyond.ensures.faces face inside in
    elim c.if-contains.branch [
      | then-contains w ↦
          let old = w.index-places-index.result in
          let child = w.child_place.result in
          let index : w.from-index.result ≡ face = w.from-index.ensures in
          let trail_is = w.trail-is ∙ w.push.ensures.pushed in
          let longer : c.if-contains.trail.items ≡ c.loop-face.trail.items ++ old ∷ [] = ap (λ (t : ListWithRoom Place). t.items) trail_is in
          let room : c.if-contains.trail.room ≡ c.loop-face.trail.room - 1 = ap (λ (t : ListWithRoom Place). t.room) trail_is in
          let more : length c.if-contains.trail.items ≡ length c.loop-face.trail.items + 1 = ap length longer ∙ length_push c.loop-face.trail.items old in
          let enough = some_room shape before group (length records.items) face records.items c.loop-face.places c.loop-face.trail.items c.loop-face.trail.room records.room
          some inside (omega (arith, c.faces-face-end.ensures.few, count)) c.requires.room now.moving now.left in
          let old_is : IsPlaceOf shape before face old = subst (IsPlaceOf shape before face) (sym (w.index-places-index.is ∙ ap (λ n. get_or c.loop-face.places n old) index)) (now.moving.rest face old (omega arith) inside) in
          let child_is : IsPlaceOf shape (union before group) face child = subst (λ (m : Mask). IsPlaceOf shape m face child) c.union-after.ensures.value w.child_place.ensures in
          record {
            moving = moves_one shape rules before group (length records.items) face records.items c.loop-face.places c.loop-face.trail.items c.if-contains.places c.if-contains.trail.items old child
                some inside (omega (arith, now.moving.long)) (sym beyond ∙ w.if-contains.true) old_is child_is
                (w.places-is ∙ ap (λ n. slice_set c.loop-face.places n child) index) longer now.moving;
            left = omega (arith, room, more, enough, now.left);
          }
      | else-contains w ↦
          record {
            moving = subst (λ (ps : List Place). IsMoving shape before group (length records.items) (face + 1) records.items ps c.if-contains.trail.items) (sym w.places-is)
                (subst (λ (t : ListWithRoom Place). IsMoving shape before group (length records.items) (face + 1) records.items c.loop-face.places t.items) (sym w.trail-is)
                (stays_one shape rules before group (length records.items) face records.items c.loop-face.places c.loop-face.trail.items some inside (sym beyond ∙ w.if-contains.false) now.moving));
            left = subst (λ (t : ListWithRoom Place). t.room + length t.items ≡ records.room + length records.items) (sym w.trail-is) now.left;
          }
    ]
