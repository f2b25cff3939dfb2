use Rattle.std.proofs.Common.{◌≡◌, ◌++◌, take}
use Rattle.std.specs.List.{flat_map}
use Rattle.sheet_figures.specs.Bodies.{face_line}
use Rattle.sheet_figures.proofs.body.put_faces.Given as goal

abbrev pub invariant-loop-face : goal.invariant-loop-face
invariant-loop-face l = l.out.items ≡ l.initial.out.items ++ flat_map (face_line l.window l.moves) (take l.face-index l.faces)
