use Rattle.std.proofs.Common.{◌≡◌, ◌+◌, ◌-◌, ◌<◌, length, ap, sym, subst, arith, ℤ, w64, to_z, of_z, map, List}
use Rattle.std.proofs.lemmas.Int.{to_z-of_z}
use Rattle.std.proofs.lemmas.List.{length-map}
use Rattle.std.proofs.lemmas.List.Elements.{All-get_or}
use Rattle.part_file.specs.Part.{FaceData, face_data, part_data}
use Rattle.unfolder.specs.Near.{IsLineWithin}
use Rattle.unfolder.specs.Tables.{no_line}
use Rattle.unfolder.specs.Cores.{parent_line}
use Rattle.unfolder.proofs.FrameLemmas.{each_pushed}
use Rattle.fold_boxes.specs.Shapes.{ShapeData}
use Rattle.fold_boxes.specs.Hinges.{IsHingeOf, AreHinges}
use Rattle.fold_boxes.proofs.Kept.{listed_at}
use Rattle.fold_boxes.proofs.shape.hinges.Goals as goal

pub new-requires-clause-line : goal.new-requires-clause-line
new-requires-clause-line c =
    let items = c.args.part.now.faces.items in
    let faces : List FaceData = map face_data items in
    let long = length-map items face_data in
    let inside : c.from.result < length faces - 1 = omega (arith, c.from.ensures, c.loop-bend-test.true, c.face_count-bend-end.ensures.value, c.loop-bend.auto.bend, long) in
    (listed_at (parent_line faces (to_z w64 (of_z w64 c.args.q))) 1 (length faces - 1) c.from.result c.loop-bend.bend c.parent_lines-lines.result.items c.as_slice.result.now no_line c.as_slice.ensures.value c.parent_lines-lines.ensures.value inside (omega (arith, c.from.ensures, c.loop-bend.auto.bend))).1

pub new-requires-clause-near : goal.new-requires-clause-near
new-requires-clause-near c =
    let items = c.args.part.now.faces.items in
    let all = c.parent_lines-lines.ensures.within in
    let long = ap length c.as_slice.ensures.value in
    let inside : c.from.result < length c.as_slice.result.now = omega (arith, c.from.ensures, c.loop-bend-test.true, c.face_count-bend-end.ensures.value, c.loop-bend.auto.bend, long, c.parent_lines-lines.ensures.count) in
    All-get_or (IsLineWithin 21000000) c.as_slice.result.now c.from.result no_line inside (rw c.as_slice.ensures.value all)

pub loop-bend-preserved : goal.loop-bend-preserved
loop-bend-preserved c =
    let shape : ShapeData = record { part = part_data c.args.part.now; q = to_z w64 (of_z w64 c.args.q) } in
    let hinges = c.loop-bend.hinges.items in
    let at : c.loop-bend.bend ≡ length hinges + 1 = sym c.loop-bend.invariant.count in
    let here : IsHingeOf shape (length hinges + 1) c.new.result = subst (λ n. IsHingeOf shape n c.new.result) at c.new.ensures in
    record {
      count = omega (arith, c.push.ensures.len, c.loop-bend.invariant.count);
      each = each_pushed (λ i h. IsHingeOf shape (i + 1) h) hinges c.push.new.self.items c.new.result c.push.ensures.items c.loop-bend.invariant.each here;
    }

pub returns-clause-each : goal.returns-clause-each
returns-clause-each c =
    let q_fits = c.ranges.q in
    subst (λ (n : ℤ). AreHinges (record { part = part_data c.args.part.now; q = n }) c.loop-bend.hinges.items) (to_z-of_z w64 c.args.q q_fits) c.loop-bend.invariant.each
