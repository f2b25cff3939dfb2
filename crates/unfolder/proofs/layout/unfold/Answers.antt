use Rattle.std.proofs.Common.{◌≡◌, List, map, length, Ok, Err, sym, ◌∙◌, ap, subst}
use Rattle.std.specs.Prelude.{All, position, find}
use Rattle.std.proofs.lemmas.List.{length-map}
use Rattle.std.proofs.lemmas.List.FromFn.{length-map-range_with_len}
use Rattle.std.proofs.lemmas.Result.{err_from_is_err_and}
use Rattle.std.proofs.lemmas.Int.{to_z-of_z}
use Rattle.part_file.specs.Part.{face_data, part_data}
use Rattle.unfolder.specs.declared.blank.FlatRect.{FlatRect}
use Rattle.unfolder.specs.declared.blank.UnfoldFault.TheVariants.{CoreTooSmall, BendOffFace}
use Rattle.unfolder.specs.Near.{IsRectWithin, IsLineWithin}
use Rattle.unfolder.specs.Cores.{is_too_small, is_off_face, parent_line}
use Rattle.toml_fields.specs.Results.{refuse_found}
use Rattle.unfolder.specs.Blank.{cores_of, flat_face, flat_faces, bend_lines, bend_numbers, flat_overlap, is_overlap_in, pairs_below}
use Rattle.unfolder.specs.Frames.{AreFrames}
use Rattle.unfolder.proofs.Layouts.{stops_at_cores, stops_at_lines, stops_at_overlaps, gives_blank, gives_fault, off_edges_are, flat_faces_are, bend_lines_are}
use Rattle.unfolder.proofs.PlaceLaws.{folds_back}
use Rattle.unfolder.proofs.Unfolded.{cores_fit, lines_kept}
use Rattle.unfolder.proofs.Abutting.{abuts_at_lines}
use Rattle.unfolder.proofs.layout.unfold.Goals as goal

pub flat_faces-faces-requires-clause-cores : goal.flat_faces-faces-requires-clause-cores
flat_faces-faces-requires-clause-cores c = subst (All (IsRectWithin 21000000)) (sym c.as_slice-4.ensures.value) c.cores-cores.ensures.within

pub bend_lines-requires-clause-lines : goal.bend_lines-requires-clause-lines
bend_lines-requires-clause-lines c = subst (All (IsLineWithin 21000000)) (sym c.as_slice-8.ensures.value) c.parent_lines-lines.ensures.within

pub returns-in_err-check_cores-clause-value : goal.returns-in_err-check_cores-clause-value
returns-in_err-check_cores-clause-value c =
    let q_fits = c.ranges.q in
    let faces = map face_data c.args.part.now.faces.items in
    let part = part_data c.args.part.now in
    let cores_are : c.as_slice.result.now ≡ cores_of faces c.args.q = c.as_slice.ensures.value ∙ (simp to_z-of_z at c.cores-cores.ensures.value) in
    let first : Err c.in_err-check_cores.field-0.0 ≡ refuse_found (position is_too_small (cores_of faces c.args.q)) CoreTooSmall = c.in_err-check_cores.ensures ∙ ap (λ (rs : List FlatRect). refuse_found (position is_too_small rs) CoreTooSmall) cores_are in
    let answer = err_from_is_err_and c.from_residual.result c.from_residual.ensures.1 in
    gives_fault _ _ c.in_err-check_cores.field-0.0 (answer.1 ∙ ap Err answer.2) (stops_at_cores part c.args.q _ first)

pub returns-in_err-check_lines-clause-value : goal.returns-in_err-check_lines-clause-value
returns-in_err-check_lines-clause-value c =
    let q_fits = c.ranges.q in
    let faces = map face_data c.args.part.now.faces.items in
    let part = part_data c.args.part.now in
    let cores_are : c.cores-cores.result.items ≡ cores_of faces c.args.q = simp to_z-of_z at c.cores-cores.ensures.value in
    let lines_are : c.parent_lines-lines.result.items ≡ map (parent_line faces c.args.q) (bend_numbers faces) = simp to_z-of_z at c.parent_lines-lines.ensures.value in
    let first : Ok tt ≡ refuse_found (position is_too_small (cores_of faces c.args.q)) CoreTooSmall = c.in_ok-check_cores.ensures ∙ ap (λ (rs : List FlatRect). refuse_found (position is_too_small rs) CoreTooSmall) (c.as_slice.ensures.value ∙ cores_are) in
    let second : Err c.in_err-check_lines.field-0.0 ≡ refuse_found (find (is_off_face faces c.args.q) (bend_numbers faces)) BendOffFace = c.in_err-check_lines.ensures ∙ ap (λ o. refuse_found o BendOffFace) (off_edges_are part c.requires.part c.args.q _ _ (c.as_slice-2.ensures.value ∙ cores_are) (c.as_slice-3.ensures.value ∙ lines_are)) in
    let answer = err_from_is_err_and c.from_residual-in_err-check_lines.result c.from_residual-in_err-check_lines.ensures.1 in
    gives_fault _ _ c.in_err-check_lines.field-0.0 (answer.1 ∙ ap Err answer.2) (stops_at_lines part c.args.q _ first second)

pub returns-in_err-check_overlaps-clause-value : goal.returns-in_err-check_overlaps-clause-value
returns-in_err-check_overlaps-clause-value c =
    let q_fits = c.ranges.q in
    let items = c.args.part.now.faces.items in
    let faces = map face_data items in
    let part = part_data c.args.part.now in
    let cores_are : c.cores-cores.result.items ≡ cores_of faces c.args.q = simp to_z-of_z at c.cores-cores.ensures.value in
    let lines_are : c.parent_lines-lines.result.items ≡ map (parent_line faces c.args.q) (bend_numbers faces) = simp to_z-of_z at c.parent_lines-lines.ensures.value in
    let first : Ok tt ≡ refuse_found (position is_too_small (cores_of faces c.args.q)) CoreTooSmall = c.in_ok-check_cores.ensures ∙ ap (λ (rs : List FlatRect). refuse_found (position is_too_small rs) CoreTooSmall) (c.as_slice.ensures.value ∙ cores_are) in
    let second : Ok tt ≡ refuse_found (find (is_off_face faces c.args.q) (bend_numbers faces)) BendOffFace = c.in_ok-check_lines.ensures ∙ ap (λ o. refuse_found o BendOffFace) (off_edges_are part c.requires.part c.args.q _ _ (c.as_slice-2.ensures.value ∙ cores_are) (c.as_slice-3.ensures.value ∙ lines_are)) in
    let frames_are : AreFrames faces c.args.q c.as_slice-5.result.now = subst (AreFrames faces c.args.q) (sym c.as_slice-5.ensures.value) (simp to_z-of_z at c.frames-frames.ensures.each) in
    let long = length-map items face_data in
    let frame_count : length c.as_slice-5.result.now ≡ length faces = ap length c.as_slice-5.ensures.value ∙ c.frames-frames.ensures.count ∙ sym long in
    let core_count : length c.as_slice-4.result.now ≡ length faces = ap length c.as_slice-4.ensures.value ∙ c.cores-cores.ensures.count ∙ sym long in
    let faces_are : c.as_slice-6.result.now ≡ flat_faces faces c.args.q = c.as_slice-6.ensures.value ∙ c.flat_faces-faces.ensures.value ∙ flat_faces_are part c.args.q _ _ _ (c.as_slice-4.ensures.value ∙ cores_are) frames_are frame_count core_count in
    let face_total : length c.as_slice-6.result.now ≡ length faces = ap length faces_are ∙ length-map-range_with_len (flat_face faces c.args.q) 0 (length faces) in
    let third : Err c.in_err-check_overlaps.field-0.0 ≡ refuse_found (find (is_overlap_in (flat_faces faces c.args.q)) (pairs_below (length faces))) flat_overlap = c.in_err-check_overlaps.ensures ∙ (λ i. refuse_found (find (is_overlap_in (faces_are i)) (pairs_below (face_total i))) flat_overlap) in
    let answer = err_from_is_err_and c.from_residual-in_err-check_overlaps.result c.from_residual-in_err-check_overlaps.ensures.1 in
    gives_fault _ _ c.in_err-check_overlaps.field-0.0 (answer.1 ∙ ap Err answer.2) (stops_at_overlaps part c.args.q _ first second third)

pub returns-clause-value : goal.returns-clause-value
returns-clause-value c =
    let q_fits = c.ranges.q in
    let items = c.args.part.now.faces.items in
    let faces = map face_data items in
    let part = part_data c.args.part.now in
    let cores_are : c.cores-cores.result.items ≡ cores_of faces c.args.q = simp to_z-of_z at c.cores-cores.ensures.value in
    let lines_are : c.parent_lines-lines.result.items ≡ map (parent_line faces c.args.q) (bend_numbers faces) = simp to_z-of_z at c.parent_lines-lines.ensures.value in
    let first : Ok tt ≡ refuse_found (position is_too_small (cores_of faces c.args.q)) CoreTooSmall = c.in_ok-check_cores.ensures ∙ ap (λ (rs : List FlatRect). refuse_found (position is_too_small rs) CoreTooSmall) (c.as_slice.ensures.value ∙ cores_are) in
    let second : Ok tt ≡ refuse_found (find (is_off_face faces c.args.q) (bend_numbers faces)) BendOffFace = c.in_ok-check_lines.ensures ∙ ap (λ o. refuse_found o BendOffFace) (off_edges_are part c.requires.part c.args.q _ _ (c.as_slice-2.ensures.value ∙ cores_are) (c.as_slice-3.ensures.value ∙ lines_are)) in
    let long = length-map items face_data in
    let all_frames : AreFrames faces c.args.q c.frames-frames.result.items = simp to_z-of_z at c.frames-frames.ensures.each in
    let frames_are : AreFrames faces c.args.q c.as_slice-5.result.now = subst (AreFrames faces c.args.q) (sym c.as_slice-5.ensures.value) all_frames in
    let frame_count : length c.as_slice-5.result.now ≡ length faces = ap length c.as_slice-5.ensures.value ∙ c.frames-frames.ensures.count ∙ sym long in
    let core_count : length c.as_slice-4.result.now ≡ length faces = ap length c.as_slice-4.ensures.value ∙ c.cores-cores.ensures.count ∙ sym long in
    let faces_are : c.flat_faces-faces.result.items ≡ flat_faces faces c.args.q = c.flat_faces-faces.ensures.value ∙ flat_faces_are part c.args.q _ _ _ (c.as_slice-4.ensures.value ∙ cores_are) frames_are frame_count core_count in
    let seen_are = c.as_slice-6.ensures.value ∙ faces_are in
    let face_total : length c.as_slice-6.result.now ≡ length faces = ap length seen_are ∙ length-map-range_with_len (flat_face faces c.args.q) 0 (length faces) in
    let third : Ok tt ≡ refuse_found (find (is_overlap_in (flat_faces faces c.args.q)) (pairs_below (length faces))) flat_overlap = c.in_ok-check_overlaps.ensures ∙ (λ i. refuse_found (find (is_overlap_in (seen_are i)) (pairs_below (face_total i))) flat_overlap) in
    let frames_are-2 : AreFrames faces c.args.q c.as_slice-7.result.now = subst (AreFrames faces c.args.q) (sym c.as_slice-7.ensures.value) all_frames in
    let frame_count-2 : length c.as_slice-7.result.now ≡ length faces = ap length c.as_slice-7.ensures.value ∙ c.frames-frames.ensures.count ∙ sym long in
    let bends_are : c.bend_lines.result.items ≡ bend_lines faces c.args.q = c.bend_lines.ensures.value ∙ bend_lines_are part c.requires.part c.args.q _ _ (c.as_slice-8.ensures.value ∙ lines_are) frames_are-2 frame_count-2 in
    gives_blank part c.args.q _ _ first second third faces_are bends_are

pub returns-clause-folds_back : goal.returns-clause-folds_back
returns-clause-folds_back c =
    let q_fits = c.ranges.q in
    let items = c.args.part.now.faces.items in
    let faces = map face_data items in
    let part = part_data c.args.part.now in
    let cores_are : c.as_slice.result.now ≡ cores_of faces c.args.q = c.as_slice.ensures.value ∙ (simp to_z-of_z at c.cores-cores.ensures.value) in
    let first : Ok tt ≡ refuse_found (position is_too_small (cores_of faces c.args.q)) CoreTooSmall = c.in_ok-check_cores.ensures ∙ ap (λ (rs : List FlatRect). refuse_found (position is_too_small rs) CoreTooSmall) cores_are in
    let lines_are : c.parent_lines-lines.result.items ≡ map (parent_line faces c.args.q) (bend_numbers faces) = simp to_z-of_z at c.parent_lines-lines.ensures.value in
    let all_frames : AreFrames faces c.args.q c.frames-frames.result.items = simp to_z-of_z at c.frames-frames.ensures.each in
    let frames_are : AreFrames faces c.args.q c.as_slice-7.result.now = subst (AreFrames faces c.args.q) (sym c.as_slice-7.ensures.value) all_frames in
    let frame_count : length c.as_slice-7.result.now ≡ length faces = ap length c.as_slice-7.ensures.value ∙ c.frames-frames.ensures.count ∙ sym (length-map items face_data) in
    let bends_are : c.bend_lines.result.items ≡ bend_lines faces c.args.q = c.bend_lines.ensures.value ∙ bend_lines_are part c.requires.part c.args.q _ _ (c.as_slice-8.ensures.value ∙ lines_are) frames_are frame_count in
    folds_back part c.requires.part c.args.q _ (cores_fit faces c.args.q first) bends_are

pub returns-clause-abuts : goal.returns-clause-abuts
returns-clause-abuts c =
    let q_fits = c.ranges.q in
    let items = c.args.part.now.faces.items in
    let faces = map face_data items in
    let part = part_data c.args.part.now in
    let cores_are : c.as_slice.result.now ≡ cores_of faces c.args.q = c.as_slice.ensures.value ∙ (simp to_z-of_z at c.cores-cores.ensures.value) in
    let first : Ok tt ≡ refuse_found (position is_too_small (cores_of faces c.args.q)) CoreTooSmall = c.in_ok-check_cores.ensures ∙ ap (λ (rs : List FlatRect). refuse_found (position is_too_small rs) CoreTooSmall) cores_are in
    let lines_are : c.parent_lines-lines.result.items ≡ map (parent_line faces c.args.q) (bend_numbers faces) = simp to_z-of_z at c.parent_lines-lines.ensures.value in
    let second : Ok tt ≡ refuse_found (find (is_off_face faces c.args.q) (bend_numbers faces)) BendOffFace = c.in_ok-check_lines.ensures ∙ ap (λ o. refuse_found o BendOffFace) (off_edges_are part c.requires.part c.args.q _ _ (c.as_slice-2.ensures.value ∙ (simp to_z-of_z at c.cores-cores.ensures.value)) (c.as_slice-3.ensures.value ∙ lines_are)) in
    let all_frames : AreFrames faces c.args.q c.frames-frames.result.items = simp to_z-of_z at c.frames-frames.ensures.each in
    let frames_are : AreFrames faces c.args.q c.as_slice-7.result.now = subst (AreFrames faces c.args.q) (sym c.as_slice-7.ensures.value) all_frames in
    let frame_count : length c.as_slice-7.result.now ≡ length faces = ap length c.as_slice-7.ensures.value ∙ c.frames-frames.ensures.count ∙ sym (length-map items face_data) in
    let bends_are : c.bend_lines.result.items ≡ bend_lines faces c.args.q = c.bend_lines.ensures.value ∙ bend_lines_are part c.requires.part c.args.q _ _ (c.as_slice-8.ensures.value ∙ lines_are) frames_are frame_count in
    let frames_are-2 : AreFrames faces c.args.q c.as_slice-5.result.now = subst (AreFrames faces c.args.q) (sym c.as_slice-5.ensures.value) all_frames in
    let frame_count-2 : length c.as_slice-5.result.now ≡ length faces = ap length c.as_slice-5.ensures.value ∙ c.frames-frames.ensures.count ∙ sym (length-map items face_data) in
    let core_count : length c.as_slice-4.result.now ≡ length faces = ap length c.as_slice-4.ensures.value ∙ c.cores-cores.ensures.count ∙ sym (length-map items face_data) in
    let faces_are : c.flat_faces-faces.result.items ≡ flat_faces faces c.args.q = c.flat_faces-faces.ensures.value ∙ flat_faces_are part c.args.q _ _ _ (c.as_slice-4.ensures.value ∙ (simp to_z-of_z at c.cores-cores.ensures.value)) frames_are-2 frame_count-2 core_count in
    abuts_at_lines part c.requires.part c.args.q _ (cores_fit faces c.args.q first) (lines_kept faces c.args.q second) faces_are bends_are
