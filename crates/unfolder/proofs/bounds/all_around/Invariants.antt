use Rattle.std.proofs.Common.{◌≡◌, take}
use Rattle.unfolder.specs.Around.{rect_around}
use Rattle.unfolder.proofs.bounds.all_around.Given as goal

abbrev pub invariant-loop-face : goal.invariant-loop-face
invariant-loop-face l = l.all ≡ rect_around l.fn.first (take l.face-index l.faces)
