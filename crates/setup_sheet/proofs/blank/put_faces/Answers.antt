use Rattle.std.proofs.Common.{arith, add-one}
use Rattle.setup_sheet.proofs.FaceLines.{lines_more}
use Rattle.setup_sheet.proofs.blank.put_faces.Goals as goal

pub loop-i-preserved : goal.loop-i-preserved
loop-i-preserved c =
    rw add-one (lines_more c.args.extent.now c.loop-i.i c.args.faces.now c.args.flat_faces.now c.index-faces-i.result _ c.args.out.now.items c.loop-i.out.items c.put_face.new.out.items (omega arith) c.loop-i-test.true c.loop-i.invariant (rw c.as_str.ensures.value at c.in_ok-put_face.ensures))
