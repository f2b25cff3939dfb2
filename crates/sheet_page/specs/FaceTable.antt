-- The table of faces and bend lines. Lengths are in micrometres.
use Rattle.std.specs.Prelude.{◌≡◌, pos, ℕ, ◌-◌, ◌==◌, true, false, List, [], ◌∷◌, ◌++◌, codes, flat_map}
use Rattle.std.specs.Prelude.{slice_index_or, if◌then◌else◌}
use Rattle.std.specs.Int.{int_min, int_max}
use Rattle.std.specs.Ordering.{int_eq}
use Rattle.std.specs.Fmt.{signed_decimal}
use Rattle.part_file.specs.Part.{FaceData, face_at}
use Rattle.unfolder.specs.declared.blank.FlatRect.{FlatRect}
use Rattle.unfolder.specs.declared.blank.FlatFace.{FlatFace}
use Rattle.unfolder.specs.declared.blank.BendLine.{BendLine}
use Rattle.unfolder.specs.Blank.{face_numbers, no_flat_face}
use Rattle.unfolder.specs.Tables.{no_line}
use Rattle.job_setup.specs.Setup.{JobData}
use Rattle.svg_text.specs.Escapes.{escaped}
use Rattle.svg_text.specs.Forms.{line_of}
use Rattle.sheet_words.specs.Lists.{mm}
use Rattle.sheet_figures.specs.declared.blank.Flat.{Flat}
use Rattle.sheet_page.specs.declared.blank_part.LineWords.{LineWords}
use Rattle.sheet_page.specs.declared.blank_part.Run.{Run}
use Rattle.sheet_page.specs.declared.blank_part.TheConstants.{FACES}
use Rattle.sheet_page.specs.declared.forms.TheConstants.{FACE_HEAD, FACE_ROW, H2, SECTION}
use Rattle.sheet_page.specs.declared.forms.TheConstants.{SECTION_END, TABLE, TABLE_END}
use Rattle.sheet_page.specs.Orders.{dir_word}

-- the face of a number in a blank, and the line of a bend
abbrev pub core_of : Flat → (number : ℕ) → FlatFace
core_of flat number = slice_index_or flat.blank.faces.items number no_flat_face

abbrev pub bend_line_of : Flat → (bend : ℕ) → BendLine
bend_line_of flat bend = slice_index_or flat.blank.bends.items (bend - 1) no_line

-- how a line runs: along x where both its ends have one y, and along y otherwise
unfoldable pub run_of : BendLine → Run
run_of line =
    if int_eq line.from.1 line.to.1
    then record { lies_along_x = true; at = line.from.1; from = line.from.0; to = line.to.0 }
    else record { lies_along_x = false; at = line.from.0; from = line.from.1; to = line.to.1 }

-- a bend and its direction, where its line lies, and from where to where it goes
unfoldable pub bend_cell : BendLine → List ℕ
bend_cell line = signed_decimal (pos line.bend) ++ dir_word line.dir

unfoldable pub place_cell : Run → List ℕ
place_cell run = (if run.lies_along_x then codes "y = " else codes "x = ") ++ mm run.at

unfoldable pub ends_cell : Run → List ℕ
ends_cell run = mm (int_min run.from run.to) ++ codes " to " ++ mm (int_max run.from run.to)

-- what is told of the bend line of a face; face 0 has none
abbrev pub told_of_line : (BendLine → List ℕ) → Flat → (number : ℕ) → List ℕ
told_of_line cell flat number = if number == 0 then [] else cell (bend_line_of flat number)

-- the words of the bend line of a face
pub record AreLineWords (flat : Flat) (number : ℕ) (words : LineWords) : Type 0 where
  pub bend : words.bend.items ≡ told_of_line bend_cell flat number
  pub place : words.place.items ≡ told_of_line (λ line. place_cell (run_of line)) flat number
  pub ends : words.ends.items ≡ told_of_line (λ line. ends_cell (run_of line)) flat number

-- a row: a face by its number, where it lies in the blank, and the words of its bend line
abbrev pub face_line : (number : ℕ) → FaceData → FlatRect → (bend place ends : List ℕ) → List ℕ
face_line number face rect bend place ends =
    line_of FACE_ROW.now
    (signed_decimal (pos number) ∷ escaped face.name ∷ mm face.width ∷ mm face.length ∷ mm rect.x0
    ∷ mm rect.x1 ∷ mm rect.y0 ∷ mm rect.y1 ∷ escaped bend ∷ escaped place ∷ escaped ends ∷ [])

-- the row of a face
unfoldable pub face_row : JobData → Flat → (number : ℕ) → List ℕ
face_row job flat number =
    face_line number (face_at job.part.faces number) (core_of flat number).rect
    (told_of_line bend_cell flat number)
    (told_of_line (λ line. place_cell (run_of line)) flat number)
    (told_of_line (λ line. ends_cell (run_of line)) flat number)

-- the section: a row for each face, in order
unfoldable pub faces_text : JobData → Flat → List ℕ
faces_text job flat =
    line_of SECTION.now ([] ∷ []) ++ line_of H2.now (escaped FACES.now ∷ [])
    ++ line_of TABLE.now [] ++ line_of FACE_HEAD.now []
    ++ flat_map (face_row job flat) (face_numbers job.part.faces) ++ line_of TABLE_END.now []
    ++ line_of SECTION_END.now []
