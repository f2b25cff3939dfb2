use Rattle.std.proofs.Common.{◌∙◌, ◌<◌, ◌≤◌, length, sym, ap, subst, arith}
use Rattle.fold_boxes.specs.Pose.{IsGroup}
use Rattle.bend_state.specs.State.{StateData, no_bends}
use Rattle.bend_state.proofs.Folds.{few_folds}
use Rattle.bend_state.proofs.Folding.{folded_state}
use Rattle.bend_state.proofs.state.BendState.fold.Goals as goal

pub push-requires : goal.push-requires
push-requires c =
    let state = c.self.inside in
    let fits : length c.as_mut_slice.result.now ≤ 13 = c.as_mut_slice.ensures.fits in
    let count = ap length c.as_mut_slice.ensures.value ∙ c.self.invariant.count in
    let of_group : IsGroup state.shape state.mask c.args.group = subst (λ (s : StateData). IsGroup s.shape s.mask c.args.group) (sym c.self.view_is) c.requires.group in
    let few = few_folds state.shape (omega (arith, fits, count)) no_bends state.mask c.args.group state.folds.items c.self.invariant.folded of_group in
    let low : length state.folds.items < 12 = omega (arith, few) in
    (omega arith, low)

pub invariant_of-self : goal.invariant_of-self
invariant_of-self c =
    let state = c.self.inside in
    let of_group : IsGroup state.shape state.mask c.args.group = subst (λ (s : StateData). IsGroup s.shape s.mask c.args.group) (sym c.self.view_is) c.requires.group in
    folded_state state.shape state.mask c.args.group c.union-self-inside.result state.folds.items c.push.new.self.items c.mark-mark.result state.places.items c.move_faces.new.places
    c.self.invariant of_group c.union-self-inside.ensures.value c.push.ensures.items (c.move_faces.ensures.count ∙ ap length c.as_mut_slice.ensures.value) c.move_faces.ensures.each
