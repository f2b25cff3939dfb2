use Rattle.std.proofs.Common.{◌∙◌, pos, ap, sym, arith}
use Rattle.std.specs.Prelude.{fold}
use Rattle.std.specs.Int.{int_max}
use Rattle.std.proofs.lemmas.Int.{ints, clamps}
use Rattle.std.proofs.lemmas.List.{take_all}
use Rattle.std.proofs.lemmas.List.Sums.{fold_more}
use Rattle.std.proofs.lemmas.List.Folds.{fold-map}
use Rattle.brake_base.specs.declared.plane.Rect.{Rect}
use Rattle.sheet_views.specs.SideArea.{rect_reach}
use Rattle.sheet_views.proofs.side_view.farthest.Goals as goal

pub loop-rect-preserved : goal.loop-rect-preserved
loop-rect-preserved c =
    let none : Rect = record { y0 = pos 0; y1 = pos 0; z0 = pos 0; z1 = pos 0 } in
    let step = fold_more (λ far r. int_max far (rect_reach r)) (pos 0) c.args.boxes.now c.loop-rect.rect-index none c.loop-rect-test.true in
    omega (arith, ints, clamps, step, c.loop-rect.invariant, c.farther-far.ensures)

pub returns : goal.returns
returns c =
    let all = take_all c.loop-rect.rect-index c.args.boxes.now (omega (arith, c.loop-rect-test.false)) in
    let is = c.loop-rect.invariant ∙ ap (fold (λ far r. int_max far (rect_reach r)) (pos 0)) all ∙ sym (fold-map int_max rect_reach (pos 0) c.args.boxes.now) in
    omega (arith, ints, is)
