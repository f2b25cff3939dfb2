use Rattle.std.proofs.Common.{◌≡◌, ◌∙◌, ◌++◌, ℕ, flat_map, length, sym, append-nil, ap, arith}
use Rattle.std.specs.List.{range_with_len}
use Rattle.sheet_page.specs.FaceTable.{face_row}
use Rattle.sheet_page.proofs.FlatBlank.{as_many_faces, as_many_lines, told_to}
use Rattle.sheet_page.proofs.blank_part.put_rows.Goals as goal

pub put_face-requires-clause-face : goal.put_face-requires-clause-face
put_face-requires-clause-face c =
    let many = as_many_faces c.args.job.now c.args.flat.now c.requires in
    omega (arith, many, c.loop-number.auto.number-end, c.loop-number-test.true, c.bends-number-end.ensures.value)

pub put_face-requires-clause-line : goal.put_face-requires-clause-line
put_face-requires-clause-line c =
    let many = as_many_lines c.args.job.now c.args.flat.now c.requires in
    omega (arith, many, c.loop-number.auto.number-end, c.loop-number-test.true, c.bends-number-end.ensures.value)

pub loop-number-init : goal.loop-number-init
loop-number-init c = sym (append-nil _)

pub loop-number-preserved : goal.loop-number-preserved
loop-number-preserved c = told_to (face_row c.args.job.now c.args.flat.now) c.loop-number.number _ _ c.loop-number.invariant c.in_ok-put_face.ensures

pub returns : goal.returns
returns c =
    let all : c.loop-number.number ≡ length c.args.job.now.part.faces = omega (arith, c.loop-number.auto.number-end, c.loop-number-test.false, c.bends-number-end.ensures.value) in
    c.loop-number.invariant ∙ ap (λ (n : ℕ). c.args.out.now.items ++ flat_map (face_row c.args.job.now c.args.flat.now) (range_with_len 0 n)) all
