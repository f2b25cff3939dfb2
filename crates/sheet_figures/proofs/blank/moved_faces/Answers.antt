use Rattle.std.proofs.Common.{List, [], sym, subst, arith}
use Rattle.std.specs.Prelude.{All}
use Rattle.std.proofs.lemmas.List.Elements.{All-push}
use Rattle.unfolder.specs.declared.blank.FlatFace.{FlatFace}
use Rattle.job_setup.proofs.BoxByBox.{mapped_more}
use Rattle.sheet_figures.specs.Flats.{IsFlatRect}
use Rattle.sheet_figures.specs.MovedBlanks.{moved_face}
use Rattle.sheet_figures.proofs.blank.moved_faces.Goals as goal

pub loop-face-preserved : goal.loop-face-preserved
loop-face-preserved c = record {
  value = mapped_more (moved_face c.args.extent.now) c.args.faces.now c.loop-face.face-index _ c.moved_face.result [] c.loop-face.moved.items _ c.loop-face-test.true c.moved_face.ensures.value c.push.ensures.items c.loop-face.invariant.value;
  same = omega (arith, c.push.ensures.len, c.loop-face.invariant.same);
  near = subst (λ (all : List FlatFace). All (λ (face : FlatFace). IsFlatRect face.rect) all) (sym c.push.ensures.items) (All-push (λ (face : FlatFace). IsFlatRect face.rect) c.loop-face.moved.items c.moved_face.result c.loop-face.invariant.near c.moved_face.ensures.near);
}
