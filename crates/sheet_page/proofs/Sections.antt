-- The sections before the strokes, from what the calls append.
use Rattle.std.proofs.Common.{◌≡◌, ◌∙◌, ℕ, pos, List, [], ◌∷◌, ◌++◌, ap, subst}
use Rattle.std.specs.Prelude.{Result, Ok, Err, OnOk}
use Rattle.part_file.specs.Part.{FaceData, face_at}
use Rattle.unfolder.specs.declared.blank.FlatFace.{FlatFace}
use Rattle.job_setup.specs.Setup.{JobData, stage_count}
use Rattle.svg_text.specs.Forms.{line_of}
use Rattle.sheet_figures.specs.declared.blank.Flat.{Flat}
use Rattle.sheet_figures.specs.Beds.{IsBedFigure}
use Rattle.sheet_figures.specs.Fronts.{IsFrontFigure}
use Rattle.sheet_page.specs.declared.blank_part.LineWords.{LineWords}
use Rattle.sheet_page.specs.declared.forms.TheConstants.{NEW_PAGE, SECTION, SECTION_END}
use Rattle.sheet_page.specs.declared.station_part.TheConstants.{CARDS}
use Rattle.sheet_page.specs.BlankPart.{IsFlatOf, HasBlank}
use Rattle.sheet_page.specs.FaceTable.{core_of, AreLineWords, face_line, face_row, faces_text}
use Rattle.sheet_page.specs.Stations.{AreCards, HasCards, station_heading, HasBed, HasStations}
use Rattle.sheet_page.specs.Page.{HasParts}
use Rattle.sheet_page.proofs.Joined.{one_behind}

row_is : (job : JobData) (flat : Flat) (number : ℕ) (face : FaceData) (core : FlatFace) (words : LineWords) → face ≡ face_at job.part.faces number → core ≡ core_of flat number → AreLineWords flat number words → face_line number face core.rect words.bend.items words.place.items words.ends.items ≡ face_row job flat number
unfolding face_row
row_is job flat number face core words face_is core_is are = rw (face_is, core_is, are.bend, are.place, are.ends)

pub row_put : (job : JobData) (flat : Flat) (number : ℕ) (face : FaceData) (core : FlatFace) (words : LineWords) (before now : List ℕ) {T E : Type 0} (r : Result T E) → face ≡ face_at job.part.faces number → core ≡ core_of flat number → AreLineWords flat number words
    → OnOk r (now ≡ before ++ face_line number face core.rect words.bend.items words.place.items words.ends.items) → OnOk r (now ≡ before ++ face_row job flat number)
row_put job flat number face core words before now (Ok _) face_is core_is are row = row ∙ ap (λ (t : List ℕ). before ++ t) (row_is job flat number face core words face_is core_is are)
row_put job flat number face core words before now (Err _) face_is core_is are row = tt

pub bed_put : (job : JobData) (count : ℕ) (before now : List ℕ) {o1 o2 o3 o4 : List ℕ} {T E : Type 0} (r : Result T E) → count ≡ stage_count job → o1 ≡ before ++ line_of SECTION.now (NEW_PAGE.now ∷ []) → o2 ≡ o1 ++ station_heading count → IsBedFigure job (pos 2) o2 o3 → IsFrontFigure job (pos 3) o3 o4
    → OnOk r (now ≡ o4 ++ line_of SECTION_END.now []) → OnOk r (HasBed job before now)
bed_put job count before now {o1 = o1} {o3 = o3} {o4 = o4} (Ok _) all begin heading bed front end = record {
  bed = o3;
  bed_figure =
      subst (λ (t : List ℕ). IsBedFigure job (pos 2) t o3) (one_behind before (line_of SECTION.now (NEW_PAGE.now ∷ [])) (station_heading (stage_count job)) begin (heading ∙ ap (λ (n : ℕ). o1 ++ station_heading n) all)) bed;
  front = o4;
  front_figure = front;
  text = end;
}
bed_put job count before now (Err _) all begin heading bed front end = tt

pub cards_put : (job : JobData) (count : ℕ) (before mid now : List ℕ) {T E : Type 0} (r : Result T E) → count ≡ stage_count job → AreCards job count (before ++ line_of SECTION.now (CARDS.now ∷ [])) mid → OnOk r (now ≡ mid ++ line_of SECTION_END.now []) → OnOk r (HasCards job before now)
cards_put job count before mid now (Ok _) all cards end = record { told = mid; cards = subst (λ (n : ℕ). AreCards job n (before ++ line_of SECTION.now (CARDS.now ∷ [])) mid) all cards; text = end }
cards_put job count before mid now (Err _) all cards end = tt

pub parts_put : (job : JobData) (strokes : ℕ) (table : List ℕ) (flat : Flat) (before behind now : List ℕ) {o2 o3 : List ℕ} {T E : Type 0} (r : Result T E) → IsFlatOf job flat → HasBlank flat (pos strokes) before behind → o2 ≡ behind ++ table → o3 ≡ o2 ++ faces_text job flat → OnOk r (HasStations job o3 now)
    → OnOk r (HasParts job strokes table before now)
parts_put job strokes table flat before behind now (Ok _) is blank order faces stations = record {
  flat = flat;
  of_part = is;
  behind = behind;
  blank = blank;
  stations = subst (λ (t : List ℕ). HasStations job t now) (one_behind behind table (faces_text job flat) order faces) stations;
}
parts_put job strokes table flat before behind now (Err _) is blank order faces stations = tt
