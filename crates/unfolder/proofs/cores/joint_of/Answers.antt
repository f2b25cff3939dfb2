use Rattle.std.proofs.Common.{◌≡◌, ◌<◌, length, map, Some, None, sym, ◌∙◌, ap, arith}
use Rattle.std.proofs.lemmas.List.{length-map}
use Rattle.part_file.specs.Part.{face_data, part_data, FaceData}
use Rattle.unfolder.proofs.Faces.{rules_of, begin_within}
use Rattle.unfolder.proofs.cores.joint_of.Goals as goal

pub unreachable-requires : goal.unreachable-requires
unreachable-requires c =
    let items = c.args.part.now.faces.items in
    let inside : c.args.bend < length (map face_data items) = omega (arith, length-map items face_data) in
    let known = (c.requires.part.each_face c.args.bend inside).placed.joined.joint c.requires.some in
    let read = ap (λ (face : FaceData). face.joint) c.face_of-child.ensures.value in
    let clash : Some known.0 ≡ None = sym known.1.has ∙ sym read ∙ c.in-None.is in
    cc

pub returns-clause-rules : goal.returns-clause-rules
returns-clause-rules c =
    let items = c.args.part.now.faces.items in
    let inside : c.args.bend < length (map face_data items) = omega (arith, length-map items face_data) in
    let read = ap (λ (face : FaceData). face.joint) c.face_of-child.ensures.value in
    rules_of (part_data c.args.part.now) c.args.bend c.in-Some.joint c.requires.part c.requires.some inside (sym read ∙ c.in-Some.is)

pub returns-clause-at : goal.returns-clause-at
returns-clause-at c =
    let items = c.args.part.now.faces.items in
    let inside : c.args.bend < length (map face_data items) = omega (arith, length-map items face_data) in
    let read = ap (λ (face : FaceData). face.joint) c.face_of-child.ensures.value in
    (begin_within (part_data c.args.part.now) c.args.bend c.in-Some.joint c.requires.part inside (rules_of (part_data c.args.part.now) c.args.bend c.in-Some.joint c.requires.part c.requires.some inside (sym read ∙ c.in-Some.is))).0

pub returns-clause-end : goal.returns-clause-end
returns-clause-end c =
    let items = c.args.part.now.faces.items in
    let inside : c.args.bend < length (map face_data items) = omega (arith, length-map items face_data) in
    let read = ap (λ (face : FaceData). face.joint) c.face_of-child.ensures.value in
    (begin_within (part_data c.args.part.now) c.args.bend c.in-Some.joint c.requires.part inside (rules_of (part_data c.args.part.now) c.args.bend c.in-Some.joint c.requires.part c.requires.some inside (sym read ∙ c.in-Some.is))).1
