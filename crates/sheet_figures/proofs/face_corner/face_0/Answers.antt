use Rattle.std.proofs.Common.{◌<◌, ◌^◌, List, length, refl, ap, sym, subst, ◌∙◌, arith}
use Rattle.std.proofs.lemmas.List.{length-map, get_or-map}
use Rattle.brake_base.specs.declared.space.Place.{Place}
use Rattle.brake_base.specs.Vectors.{IsWithin}
use Rattle.brake_base.specs.Turns.{Map, map_of, stay}
use Rattle.sheet_views.proofs.Kept.{read_at}
use Rattle.sheet_figures.proofs.face_corner.face_0.Goals as goal

pub bounds-as_slice-0 : goal.bounds-as_slice-0
bounds-as_slice-0 c =
    let places = c.args.drawing.now.pose.places.items in
    let there : 0 < length places = omega (arith, length-map places map_of, c.requires.places) in
    subst (λ (xs : List Place). 0 < length xs) (sym c.as_slice.ensures.value) there

pub returns-clause-value : goal.returns-clause-value
returns-clause-value c =
    let places = c.args.drawing.now.pose.places.items in
    let place = c.index-as_slice-0.result in
    let there : 0 < length places = omega (arith, length-map places map_of, c.requires.places) in
    let here = read_at places c.as_slice.result.now 0 0 place place c.as_slice.ensures.value refl c.index-as_slice-0.is there in
    ap map_of here ∙ sym (get_or-map map_of places 0 place stay there)

pub returns-clause-near : goal.returns-clause-near
returns-clause-near c = subst (λ (m : Map). IsWithin (2 ^ 40) m.shift) (sym (returns-clause-value c)) c.requires.held
