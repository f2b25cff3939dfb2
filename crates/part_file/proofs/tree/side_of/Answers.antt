use Rattle.std.proofs.Common.{◌<◌, length, map, arith}
use Rattle.std.proofs.lemmas.List.{length-map}
use Rattle.part_file.specs.Part.{part_data, face_data}
use Rattle.part_file.proofs.Joints.{same_beyond, beyond_is}
use Rattle.part_file.proofs.tree.side_of.Goals as goal

pub loop-inner-preserved : goal.loop-inner-preserved
loop-inner-preserved c =
    let found = c.parent-inner.ensures.is in
    record {
      within = omega arith;
      same = same_beyond (map face_data c.args.part.now.faces.items) c.args.bend c.loop-inner.inner c.args.face c.parent-inner.result found.0 found.1 found.2 c.loop-inner-test.true c.loop-inner.invariant.same;
    }

pub returns : goal.returns
returns c =
    let within : c.loop-inner.inner < length (part_data c.args.part.now).faces = rw length-map c.loop-inner.invariant.within in
    beyond_is (part_data c.args.part.now) c.requires.fit c.args.bend c.loop-inner.inner c.args.face within c.loop-inner-test.false c.loop-inner.invariant.same
