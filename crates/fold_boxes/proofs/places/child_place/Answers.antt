use Rattle.std.proofs.Common.{◌≡◌, ◌∙◌, sym, subst, ap, cond}
use Rattle.brake_base.specs.Masks.{has}
use Rattle.fold_boxes.specs.Places.{IsPlaceOf}
use Rattle.fold_boxes.proofs.Folding.{next_place}
use Rattle.fold_boxes.proofs.places.child_place.Goals as goal

pub returns : goal.returns
returns c =
    let shape = c.args.shape.now in
    let mask = c.args.mask in
    let bend = c.args.bend in
    let kept = c.hinge.result.now in
    let parent : IsPlaceOf shape mask kept.parent c.args.parent.now = subst (λ on. IsPlaceOf shape mask on c.args.parent.now) (sym c.hinge.ensures.value.parent) c.requires.parent in
    let taken : c.child.result.now ≡ cond (has mask bend) kept.folded kept.flat = c.child.ensures ∙ ap (λ t. cond t kept.folded kept.flat) c.contains.ensures in
    next_place shape c.hinge.ensures.rules mask bend kept c.requires.some c.requires.bend c.hinge.ensures.value c.args.parent.now c.child.result.now c.onto.result parent taken c.onto.ensures.value c.onto.ensures.near
