use Rattle.std.proofs.Common.{◌≡◌, map, length}
use Rattle.std.specs.Prelude.{All}
use Rattle.std.specs.List.{range_with_len}
use Rattle.unfolder.specs.declared.blank.FlatFace.{FlatFace}
use Rattle.unfolder.specs.Extent.{IsNearRect}
use Rattle.unfolder.specs.Tables.{laid_face}
use Rattle.unfolder.proofs.layout.flat_faces.Given as goal

abbrev pub invariant-loop-face : goal.invariant-loop-face
invariant-loop-face l = record {
  count : length l.faces.items ≡ l.face;
  value : l.faces.items ≡ map (laid_face l.cores l.frames) (range_with_len 0 l.face);
  near : All (λ (face : FlatFace). IsNearRect face.rect) l.faces.items;
}
