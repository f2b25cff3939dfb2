use Rattle.std.proofs.Common.{◌≡◌, length, map, take}
use Rattle.std.specs.Prelude.{All}
use Rattle.unfolder.specs.declared.blank.FlatFace.{FlatFace}
use Rattle.sheet_figures.specs.Flats.{IsFlatRect}
use Rattle.sheet_figures.specs.MovedBlanks.{moved_face}
use Rattle.sheet_figures.proofs.blank.moved_faces.Given as goal

abbrev pub invariant-loop-face : goal.invariant-loop-face
invariant-loop-face l = record {
  value : l.moved.items ≡ map (moved_face l.extent) (take l.face-index l.faces);
  same : length l.moved.items ≡ l.face-index;
  near : All (λ (face : FlatFace). IsFlatRect face.rect) l.moved.items;
}
