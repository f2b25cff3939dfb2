use Rattle.std.proofs.Common.{◌≡◌, ◌<◌, length, map, Some, None}
use Rattle.std.proofs.lemmas.List.{length-map}
use Rattle.part_file.specs.Part.{part_data, face_data, joint_at}
use Rattle.part_file.proofs.Joints.{joint_is, is_earlier, is_joined}
use Rattle.part_file.proofs.tree.parent.Goals as goal

pub returns-in-Some-clause-earlier : goal.returns-in-Some-clause-earlier
returns-in-Some-clause-earlier c =
    let within : c.args.face < length (map face_data c.args.part.now.faces.items) = rw length-map c.requires.high in
    let same : joint_at (part_data c.args.part.now).faces c.args.face ≡ Some c.in-Some.joint = joint_is c.args.part.now.faces.items c.deref.result.now c.args.face c.from.result _ _ c.deref.ensures.0 c.from.ensures c.requires.high c.in-Some.is in
    is_earlier (part_data c.args.part.now) c.requires.fit c.args.face within c.in-Some.joint same

pub returns-in-None-clause-is : goal.returns-in-None-clause-is
returns-in-None-clause-is c =
    let within : c.args.face < length (map face_data c.args.part.now.faces.items) = rw length-map c.requires.high in
    let same : joint_at (part_data c.args.part.now).faces c.args.face ≡ None = joint_is c.args.part.now.faces.items c.deref.result.now c.args.face c.from.result _ _ c.deref.ensures.0 c.from.ensures c.requires.high c.in-None.is in
    absurd (is_joined (part_data c.args.part.now) c.requires.fit c.args.face c.requires.low within same)
