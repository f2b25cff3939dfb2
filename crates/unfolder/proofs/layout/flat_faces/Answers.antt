use Rattle.std.proofs.Common.{arith}
use Rattle.unfolder.specs.declared.blank.FlatFace.{FlatFace}
use Rattle.unfolder.specs.Extent.{IsNearRect}
use Rattle.unfolder.specs.Tables.{laid_face}
use Rattle.unfolder.proofs.Listing.{push_next, all_pushed}
use Rattle.unfolder.proofs.layout.flat_faces.Goals as goal

pub loop-face-preserved : goal.loop-face-preserved
loop-face-preserved c = record {
  count = omega (arith, c.push.ensures.len);
  value = push_next (laid_face c.args.cores.now c.args.frames.now) 0 c.loop-face.face c.loop-face.face _ _ _ c.push.ensures.items c.loop-face.invariant.value (λ i. record { rect = c.rect.ensures.value i; turn = (laid_face c.args.cores.now c.args.frames.now c.loop-face.face).turn }) (omega arith);
  near = all_pushed (λ (face : FlatFace). IsNearRect face.rect) _ _ _ c.push.ensures.items c.loop-face.invariant.near c.rect.ensures.near;
}
