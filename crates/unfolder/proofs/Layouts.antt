-- What the lists of the code give is the blank, or the refusal, of the definition.
use Rattle.std.proofs.Common.{◌≡◌, ℕ, zero, suc, ◌+◌, ◌-◌, ◌<◌, ◌≤◌, ℤ, List, ◌∷◌, map, length, get_or, Ok, Err, refl, sym, ◌∙◌, ap, subst, arith}
use Rattle.std.specs.Prelude.{Result, find, position}
use Rattle.std.specs.List.{range_with_len}
use Rattle.std.proofs.lemmas.List.FromFn.{get_or-map-range_with_len}
use Rattle.brake_base.specs.Turns.{Map, apply, multiply, quarter_turns}
use Rattle.part_file.specs.Part.{PartData, FaceData, IsPart}
use Rattle.unfolder.specs.declared.blank.FlatRect.{FlatRect}
use Rattle.unfolder.specs.declared.blank.FlatFace.{FlatFace}
use Rattle.unfolder.specs.declared.blank.Blank.{Blank}
use Rattle.unfolder.specs.declared.blank.BendLine.{BendLine}
use Rattle.unfolder.specs.declared.blank.UnfoldFault.{UnfoldFault}
use Rattle.unfolder.specs.declared.blank.UnfoldFault.TheVariants.{CoreTooSmall, BendOffFace}
use Rattle.unfolder.specs.declared.frame.Frame.{Frame}
use Rattle.unfolder.specs.Cores.{joint_of, core, is_too_small, is_off_edge, is_off_face, parent_line}
use Rattle.toml_fields.specs.Results.{Gives, refuse_found}
use Rattle.unfolder.specs.Blank.{BlankData, blank_data, flat, flat_image, quarter_turns_to, flat_face, line_image, bend_line, bend_numbers, pairs_below, is_overlap_in, cores_of, flat_faces, bend_lines, flat_overlap, blank_of_part}
use Rattle.unfolder.specs.Frames.{AreFrames}
use Rattle.unfolder.specs.Tables.{no_rect, no_line, no_frame, is_off_edge_in, laid_face, laid_line}
use Rattle.unfolder.proofs.Finding.{find_same}
use Rattle.unfolder.proofs.Quarters.{by_four}
use Rattle.unfolder.proofs.ChainLemmas.{joint_of_part}

-- ---- the steps of the definition
pub stops_at_cores : (part : PartData) (q : ℤ) (fault : UnfoldFault) → Err fault ≡ refuse_found (position is_too_small (cores_of part.faces q)) CoreTooSmall → blank_of_part part q ≡ Err fault
unfolding blank_of_part
stops_at_cores part q fault first = rw (← first)

pub stops_at_lines : (part : PartData) (q : ℤ) (fault : UnfoldFault) → Ok tt ≡ refuse_found (position is_too_small (cores_of part.faces q)) CoreTooSmall
    → Err fault ≡ refuse_found (find (is_off_face part.faces q) (bend_numbers part.faces)) BendOffFace → blank_of_part part q ≡ Err fault
unfolding blank_of_part
stops_at_lines part q fault first second = rw (← first, ← second)

pub stops_at_overlaps : (part : PartData) (q : ℤ) (fault : UnfoldFault) → Ok tt ≡ refuse_found (position is_too_small (cores_of part.faces q)) CoreTooSmall
    → Ok tt ≡ refuse_found (find (is_off_face part.faces q) (bend_numbers part.faces)) BendOffFace
    → Err fault ≡ refuse_found (find (is_overlap_in (flat_faces part.faces q)) (pairs_below (length part.faces))) flat_overlap → blank_of_part part q ≡ Err fault
unfolding blank_of_part
stops_at_overlaps part q fault first second third = rw (← first, ← second, ← third)

pub gives_blank : (part : PartData) (q : ℤ) (faces : List FlatFace) (bends : List BendLine) → Ok tt ≡ refuse_found (position is_too_small (cores_of part.faces q)) CoreTooSmall
    → Ok tt ≡ refuse_found (find (is_off_face part.faces q) (bend_numbers part.faces)) BendOffFace
    → Ok tt ≡ refuse_found (find (is_overlap_in (flat_faces part.faces q)) (pairs_below (length part.faces))) flat_overlap
    → faces ≡ flat_faces part.faces q → bends ≡ bend_lines part.faces q → blank_of_part part q ≡ Ok (record { faces = faces; bends = bends })
unfolding blank_of_part
gives_blank part q faces bends first second third faces_are bends_are = rw (← first, ← second, ← third, faces_are, bends_are)

-- ---- the lists of the code
pub map_same : {X : Type 0} (f g : ℕ → X) (a n : ℕ) → ((k : ℕ) → a ≤ k → k < a + n → f k ≡ g k) → map f (range_with_len a n) ≡ map g (range_with_len a n)
map_same f g a zero same = refl
map_same f g a (suc n) same = λ i. same a (omega arith) (omega arith) i ∷ map_same f g (a + 1) n (λ k l h. same k (omega arith) (omega arith)) i

pub core_at : (faces : List FaceData) (q : ℤ) (cores : List FlatRect) (f : ℕ) → cores ≡ cores_of faces q → f < length faces → get_or cores f no_rect ≡ core faces q f
core_at faces q cores f are inside = ap (λ rs. get_or rs f no_rect) are ∙ get_or-map-range_with_len (core faces q) 0 (length faces) f f no_rect inside (omega arith)

pub line_at : (faces : List FaceData) (q : ℤ) (lines : List BendLine) (b : ℕ) → lines ≡ map (parent_line faces q) (bend_numbers faces) → 0 < b → b < length faces → get_or lines (b - 1) no_line ≡ parent_line faces q b
line_at faces q lines b are some inside = ap (λ ls. get_or ls (b - 1) no_line) are ∙ get_or-map-range_with_len (parent_line faces q) 1 (length faces - 1) (b - 1) b no_line (omega arith) (omega arith)

turn_back : (r : ℕ) → r < 4 → r ≡ quarter_turns_to (quarter_turns r).x
unfolding apply multiply
turn_back = by_four (λ r. r ≡ quarter_turns_to (quarter_turns r).x) refl refl refl refl

pub laid_face_is : (faces : List FaceData) (q : ℤ) (cores : List FlatRect) (frames : List Frame) (f : ℕ) → cores ≡ cores_of faces q → AreFrames faces q frames → f < length frames → f < length faces → laid_face cores frames f ≡ flat_face faces q f
laid_face_is faces q cores frames f cores_are are in_frames inside =
    let frame = are f no_frame in_frames in
    let turn : (get_or frames f no_frame).turn ≡ quarter_turns_to (flat faces q f).turn.x = turn_back (get_or frames f no_frame).turn frame.within.turn ∙ ap (λ (m : Map). quarter_turns_to m.turn.x) frame.map in
    λ i. record { rect = flat_image (frame.map i) (core_at faces q cores f cores_are inside i); turn = turn i }

pub laid_line_is : (p : PartData) → IsPart p → (q : ℤ) (lines : List BendLine) (frames : List Frame) (b : ℕ) → lines ≡ map (parent_line p.faces q) (bend_numbers p.faces) → AreFrames p.faces q frames → length frames ≡ length p.faces → 0 < b → b < length p.faces → laid_line p.faces frames lines b ≡ bend_line p.faces q b
laid_line_is p part q lines frames b lines_are are count some inside =
    let on : (joint_of p.faces b).on < b = (joint_of_part p part).on b some inside in
    let frame = are (joint_of p.faces b).on no_frame (omega arith) in
    λ i. line_image (frame.map i) (line_at p.faces q lines b lines_are some inside i)

pub off_edges_are : (p : PartData) → IsPart p → (q : ℤ) (cores : List FlatRect) (lines : List BendLine) → cores ≡ cores_of p.faces q → lines ≡ map (parent_line p.faces q) (bend_numbers p.faces)
    → find (is_off_edge_in p.faces cores lines) (bend_numbers p.faces) ≡ find (is_off_face p.faces q) (bend_numbers p.faces)
off_edges_are p part q cores lines cores_are lines_are =
    let some = part.some_face in
    find_same (is_off_edge_in p.faces cores lines) (is_off_face p.faces q) 1 (length p.faces - 1) (λ b low high.
    let inside : b < length p.faces = omega arith in
    let on : (joint_of p.faces b).on < b = (joint_of_part p part).on b low inside in
    λ i. is_off_edge (core_at p.faces q cores (joint_of p.faces b).on cores_are (omega arith) i) (line_at p.faces q lines b lines_are low inside i))

pub flat_faces_are : (p : PartData) (q : ℤ) (cores : List FlatRect) (frames : List Frame) (n : ℕ) → cores ≡ cores_of p.faces q → AreFrames p.faces q frames → length frames ≡ length p.faces → n ≡ length p.faces → map (laid_face cores frames) (range_with_len 0 n) ≡ flat_faces p.faces q
flat_faces_are p q cores frames n cores_are are count same =
    ap (λ m. map (laid_face cores frames) (range_with_len 0 m)) same
    ∙ map_same (laid_face cores frames) (flat_face p.faces q) 0 (length p.faces) (λ f low high. laid_face_is p.faces q cores frames f cores_are are (omega arith) (omega arith))

pub bend_lines_are : (p : PartData) → IsPart p → (q : ℤ) (lines : List BendLine) (frames : List Frame) → lines ≡ map (parent_line p.faces q) (bend_numbers p.faces) → AreFrames p.faces q frames → length frames ≡ length p.faces → map (laid_line p.faces frames lines) (bend_numbers p.faces) ≡ bend_lines p.faces q
bend_lines_are p part q lines frames lines_are are count =
    let some = part.some_face in
    map_same (laid_line p.faces frames lines) (bend_line p.faces q) 1 (length p.faces - 1) (λ b low high. laid_line_is p part q lines frames b lines_are are count low (omega arith))

pub gives_fault : (result : Result Blank UnfoldFault) (defined : Result BlankData UnfoldFault) (fault : UnfoldFault) → result ≡ Err fault → defined ≡ Err fault → Gives blank_data result defined
gives_fault result defined fault answered is = subst (λ r. Gives blank_data r defined) (sym answered) is
