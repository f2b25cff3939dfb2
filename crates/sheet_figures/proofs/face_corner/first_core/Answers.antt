use Rattle.std.proofs.Common.{◌≡◌, ◌<◌, pos, List, length, get_or, refl, ap, ◌∙◌, rules, FitsSigned, to_z-of_z, w64, arith}
use Rattle.std.proofs.lemmas.List.FromFn.{get_or-map-range_with_len, length-map-range_with_len}
use Rattle.part_file.specs.Part.{part_data}
use Rattle.unfolder.specs.declared.blank.FlatRect.{FlatRect}
use Rattle.unfolder.specs.Cores.{core}
use Rattle.unfolder.specs.Blank.{cores_of}
use Rattle.sheet_views.proofs.Kept.{same_at}
use Rattle.sheet_figures.proofs.face_corner.first_core.Goals as goal

pub returns-clause-value : goal.returns-clause-value
returns-clause-value c =
    let job = c.args.job.now in
    let cores = c.cores-cores.result.items in
    let faces = job.part.faces in
    let rect : FlatRect = record { x0 = pos 0; x1 = pos 0; y0 = pos 0; y1 = pos 0 } in
    let fits_q : FitsSigned w64 c.q.result = search rules in
    let read : cores ≡ cores_of (part_data c.part.result.now).faces c.q.result = simp to_z-of_z at c.cores-cores.ensures.value in
    let all : cores ≡ cores_of faces job.q = read ∙ (λ i. cores_of (c.part.ensures.value i).faces (c.q.ensures.value i)) in
    let long : length cores ≡ length faces = ap length all ∙ length-map-range_with_len (core faces job.q) 0 (length faces) in
    let some : 0 < length faces = c.part.ensures.valid.part.some_face in
    let there : 0 < length cores = omega (arith, long, some) in
    same_at cores c.as_slice.result.now 0 0 _ rect c.as_slice.ensures.value refl there
    ∙ ap (λ (xs : List FlatRect). get_or xs 0 rect) all ∙ get_or-map-range_with_len (core faces job.q) 0 (length faces) 0 0 rect some (omega arith)
