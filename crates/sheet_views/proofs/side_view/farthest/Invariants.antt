use Rattle.std.proofs.Common.{◌≡◌, pos, take}
use Rattle.std.specs.Prelude.{fold}
use Rattle.std.specs.Int.{int_max}
use Rattle.sheet_views.specs.SideArea.{rect_reach}
use Rattle.sheet_views.proofs.side_view.farthest.Given as goal

abbrev pub invariant-loop-rect : goal.invariant-loop-rect
invariant-loop-rect l = l.far ≡ fold (λ far r. int_max far (rect_reach r)) (pos 0) (take l.rect-index l.boxes)
