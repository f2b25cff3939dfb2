use Rattle.std.proofs.Common.{◌≡◌, ◌∙◌, ◌<◌, ◌≤◌, ◌+◌, ◌-◌, ℕ, true, List, Some, slice_get, slice_set, length, sym, ap, subst, arith}
use Rattle.brake_base.specs.declared.space.Place.{Place}
use Rattle.bend_state.specs.State.{moves}
use Rattle.bend_state.proofs.Moving.{IsRestoring, begins_back, restores_one, stays_back, within_records}
use Rattle.bend_state.proofs.moves.restore_faces.Goals as goal
use Rattle.bend_state.proofs.moves.restore_faces.Goals.{then-contains, else-contains}

pub loop-face-init : goal.loop-face-init
loop-face-init c =
    let shape = c.args.shape.now in
    let fold = c.args.fold.now in
    let records = c.args.trail.now.items in
    let low : fold.mark ≤ length records = omega (arith, c.requires.kept.count) in
    subst (λ (n : ℕ). IsRestoring shape fold.before fold.group fold.mark 1 (n - fold.mark) c.args.places.now records) (sym c.mark-end.ensures.length)
    (begins_back shape c.faces-face-end.ensures.rules fold.before fold.group fold.mark c.args.places.now records c.requires.count c.requires.each low)

pub get-requires : goal.get-requires
get-requires c =
    let shape = c.args.shape.now in
    let fold = c.args.fold.now in
    let face = c.loop-face.face in
    let records = c.args.trail.now.items in
    let some : 0 < face = omega (arith, c.loop-face.auto.face) in
    let inside : face < length shape.part.faces = omega (arith, c.loop-face-test.true, c.faces-face-end.ensures.value) in
    let moved : moves shape fold.group face ≡ true = sym (c.contains.ensures ∙ c.faces_beyond-beyond.ensures.faces face inside) ∙ c.if-contains.true in
    let below = within_records shape fold.before fold.group fold.mark face records some inside moved c.requires.kept in
    record { within = omega (arith, c.loop-face.invariant.index, below, c.mark-end.ensures.length) }

pub loop-face-preserved : goal.loop-face-preserved
loop-face-preserved c =
    let shape = c.args.shape.now in
    let rules = c.faces-face-end.ensures.rules in
    let fold = c.args.fold.now in
    let face = c.loop-face.face in
    let left = c.loop-face.left in
    let records = c.args.trail.now.items in
    let now = c.loop-face.invariant in
    let some : 0 < face = omega (arith, c.loop-face.auto.face) in
    let inside : face < length shape.part.faces = omega (arith, c.loop-face-test.true, c.faces-face-end.ensures.value) in
    let beyond : c.contains.result ≡ moves shape fold.group face = c.contains.ensures ∙ c.faces_beyond-beyond.ensures.faces face inside in
    elim c.if-contains.branch [
      | then-contains w ↦
          let place = w.get.result in
          let read : slice_get records (length records - left) ≡ Some place = ap (λ (n : ℕ). slice_get records (n - left)) (sym c.mark-end.ensures.length) ∙ w.get.ensures.record_at in
          subst (λ (n : ℕ). IsRestoring shape fold.before fold.group fold.mark (face + 1) n c.if-contains.places records) (sym w.left-is)
          (restores_one shape fold.before fold.group fold.mark face left c.loop-face.places c.if-contains.places records place some inside (sym beyond ∙ w.if-contains.true) c.requires.kept read
          (w.places-is ∙ ap (λ n. slice_set c.loop-face.places n place) w.from.ensures) now)
      | else-contains w ↦
          subst (λ (n : ℕ). IsRestoring shape fold.before fold.group fold.mark (face + 1) n c.if-contains.places records) (sym w.left-is)
          (subst (λ (ps : List Place). IsRestoring shape fold.before fold.group fold.mark (face + 1) left ps records) (sym w.places-is)
          (stays_back shape rules fold.before fold.group fold.mark face left c.loop-face.places records some inside (sym beyond ∙ w.if-contains.false) now))
    ]
