use Rattle.std.proofs.Common.{◌∙◌, not, ◌&&◌, List, length, sym, ap, subst}
use Rattle.brake_base.specs.declared.space.Place.{Place}
use Rattle.brake_base.specs.declared.mask.Mask.{Mask}
use Rattle.brake_base.specs.Masks.{has, union}
use Rattle.fold_boxes.specs.Places.{ArePlaces}
use Rattle.bend_state.specs.State.{StateData, last_fold}
use Rattle.bend_state.proofs.Folding.{last_of, undone_state, without_last}
use Rattle.bend_state.proofs.state.BendState.undo.Goals as goal

pub restore_faces-requires-clause-each : goal.restore_faces-requires-clause-each
restore_faces-requires-clause-each c =
    let state = c.self.inside in
    let fold = c.in-Some.fold in
    let last = last_of state.shape state.mask state.folds.items c.pop.new.self.items fold c.in-Some.ensures.items c.self.invariant.folded in
    subst (λ (ps : List Place). ArePlaces state.shape (union fold.before fold.group) ps) (sym c.as_mut_slice.ensures.value)
    (subst (λ (m : Mask). ArePlaces state.shape m state.places.items) (sym last.after) c.self.invariant.each)

pub invariant_of-self : goal.invariant_of-self
invariant_of-self c =
    let state = c.self.inside in
    undone_state state.shape state.mask state.folds.items c.pop.new.self.items c.in-Some.fold state.places.items c.restore_faces.new.places
    c.self.invariant c.in-Some.ensures.items (c.restore_faces.ensures.count ∙ ap length c.as_mut_slice.ensures.value) c.restore_faces.ensures.each

pub returns-in-Some-clause-without : goal.returns-in-Some-clause-without
returns-in-Some-clause-without c = λ bend low high.
    let state = c.self.inside in
    without_last state.shape state.mask state.folds.items c.pop.new.self.items c.in-Some.fold c.in-Some.ensures.items c.self.invariant.folded bend low high
    ∙ ap (λ (s : StateData). has s.mask bend && not (has (last_fold s.folds).group bend)) c.self.view_is
