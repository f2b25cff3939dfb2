use Rattle.std.proofs.Common.{◌∙◌, pos, List, map, ap, arith}
use Rattle.std.specs.Prelude.{fold}
use Rattle.std.specs.Int.{int_max}
use Rattle.std.proofs.lemmas.Int.{ints, clamps}
use Rattle.brake_base.specs.declared.plane.Rect.{Rect}
use Rattle.sheet_views.specs.SideArea.{rect_reach}
use Rattle.sheet_views.proofs.side_view.die_reach.Goals as goal

pub returns-clause-value : goal.returns-clause-value
returns-clause-value c =
    let v = c.requires.stage.die.sizes.v.range in
    let far = c.farthest.ensures ∙ ap (λ (xs : List Rect). fold int_max (pos 0) (map rect_reach xs)) c.as_slice.ensures.value in
    omega (arith, ints, clamps, far, v.bottom, v.top)

pub returns-clause-low : goal.returns-clause-low
returns-clause-low c = let v = c.requires.stage.die.sizes.v.range in omega (arith, ints, clamps, v.bottom, v.top)

pub returns-clause-high : goal.returns-clause-high
returns-clause-high c = let v = c.requires.stage.die.sizes.v.range in omega (arith, ints, clamps, v.bottom, v.top)
