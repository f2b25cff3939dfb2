-- The text of rows and their notes, and one row more.
use Rattle.std.proofs.Common.{◌≡◌, ℕ, suc, ◌+◌, ◌<◌, ◌==◌, Bool, true, false, cond, List, [], ◌∷◌, ◌++◌, length, map, filter, All, refl, ap, sym, ◌∙◌, subst, arith, append_assoc}
use Rattle.std.proofs.lemmas.Grind.{flat_map-append}
use Rattle.std.proofs.lemmas.List.{append-nil}
use Rattle.std.proofs.lemmas.List.Elements.{filter-append}
use Rattle.cert_lines.specs.declared.row_head.RowHead.{RowHead}
use Rattle.plan_lines.specs.declared.note.Note.{Note}
use Rattle.stage_lanes.specs.declared.actions.ActionSet.{ActionSet}
use Rattle.stage_lanes.specs.ActionSets.{places_of}
use Rattle.cert_lines.specs.Lines.{CertLine, line_text, lines_text, row_line}
use Rattle.plan_cert.specs.CertText.{line_of_note, row_lines, rows_lines}
use Rattle.plan_cert.proofs.NoteOrder.{is_of}
use Rattle.plan_cert.proofs.RowTexts.{lines_from}
use Rattle.row_text.specs.Notes.{SetNotes, note_at, notes_of, GoOnAs}

-- the note is of a row before this one, and the notes are
abbrev AreBefore : ℕ → List Note → Type 0
AreBefore row [] = Unit {0}
AreBefore row (note ∷ notes) = (note.row < row) × AreBefore row notes

-- the notes are of this row
abbrev pub AreAt : ℕ → List Note → Type 0
AreAt row [] = Unit {0}
AreAt row (note ∷ notes) = (note.row ≡ row) × AreAt row notes

before_all : (row : ℕ) (notes : List Note) → All (λ note. note.row < row) notes → AreBefore row notes
before_all row [] all = tt
before_all row (note ∷ notes) all = (all 0 note (omega arith), before_all row notes (λ i d within. all (suc i) d (omega (arith, within))))

apart : (m n : ℕ) → m < n → (m == n) ≡ false
apart m n lt = grind arith

same : (m n : ℕ) → m ≡ n → (m == n) ≡ true
same m n e = grind arith

skip : (row : ℕ) (note : Note) (notes : List Note) → (note.row == row) ≡ false → filter (is_of row) (note ∷ notes) ≡ filter (is_of row) notes
skip row note notes fail = ap (λ (t : Bool). cond t (note ∷ filter (is_of row) notes) (filter (is_of row) notes)) fail

none_before : (row : ℕ) (notes : List Note) → AreBefore row notes → filter (is_of row) notes ≡ []
none_before row [] all = refl
none_before row (note ∷ notes) all = skip row note notes (apart note.row row all.0) ∙ none_before row notes all.1

all_at : (row : ℕ) (notes : List Note) → AreAt row notes → filter (is_of row) notes ≡ notes
all_at row [] all = refl
all_at row (note ∷ notes) all =
    ap (λ (t : Bool). cond t (note ∷ filter (is_of row) notes) (filter (is_of row) notes)) (same note.row row all.0) ∙ ap (λ (ns : List Note). note ∷ ns) (all_at row notes all.1)

none_later : (row later : ℕ) (notes : List Note) → row < later → AreAt later notes → filter (is_of row) notes ≡ []
none_later row later [] lt all = refl
none_later row later (note ∷ notes) lt all = skip row note notes (differ note.row row (let at = all.0 in omega (arith, at, lt))) ∙ none_later row later notes lt all.1
  where
    differ : (m n : ℕ) → n < m → (m == n) ≡ false
    differ m n lt = grind arith

-- one row more, behind those from a number on
more_lines : (stages i : ℕ) (rows : List RowHead) (row : RowHead) (notes own : List Note) (place : ℕ) → place ≡ i + length rows → AreBefore place notes → AreAt place own
    → lines_from stages i (rows ++ row ∷ []) (notes ++ own) ≡ lines_from stages i rows notes ++ (row_line row ∷ map (line_of_note stages) own)
more_lines stages i [] row notes own place e before at =
    let here : place ≡ i = omega (arith, e) in
    append-nil (row_line row ∷ map (line_of_note stages) (filter (is_of i) (notes ++ own)))
    ∙ ap (λ (ns : List Note). row_line row ∷ map (line_of_note stages) ns)
    (subst (λ n. filter (is_of n) (notes ++ own) ≡ own) here
    (filter-append (is_of place) notes own ∙ ap (λ (ns : List Note). ns ++ filter (is_of place) own) (none_before place notes before) ∙ all_at place own at))
more_lines stages i (other ∷ rows) row notes own place e before at =
    let next : place ≡ i + 1 + length rows = omega (arith, e) in
    let mine : filter (is_of i) (notes ++ own) ≡ filter (is_of i) notes =
    filter-append (is_of i) notes own ∙ ap (λ (ns : List Note). filter (is_of i) notes ++ ns) (none_later i place own (omega (arith, e)) at) ∙ append-nil (filter (is_of i) notes) in
    ap (λ (ns : List Note). (row_line other ∷ map (line_of_note stages) ns) ++ lines_from stages (i + 1) (rows ++ row ∷ []) (notes ++ own)) mine
    ∙ ap (λ (ls : List CertLine). row_lines stages notes (i, other) ++ ls) (more_lines stages (i + 1) rows row notes own place next before at)
    ∙ sym (append_assoc (row_lines stages notes (i, other)) (lines_from stages (i + 1) rows notes) (row_line row ∷ map (line_of_note stages) own))

notes_at : (said : SetNotes) (row : ℕ) (places : List ℕ) → AreAt row (map (note_at said row) places)
notes_at said row [] = tt
notes_at said row (place ∷ places) = (refl, notes_at said row places)

-- the lines of a row's notes don't tell the row's number
same_notes : (said : SetNotes) (row other : ℕ) (places : List ℕ) → map (line_of_note said.stages) (map (note_at said row) places) ≡ map (line_of_note said.stages) (map (note_at said other) places)
same_notes said row other [] = refl
same_notes said row other (place ∷ places) = ap (λ (ls : List CertLine). line_of_note said.stages (note_at said row place) ∷ ls) (same_notes said row other places)

-- the text of rows and their notes, and of one row more
pub more_text : (stages : ℕ) (rows : List RowHead) (row : RowHead) (notes own : List Note) → All (λ note. note.row < length rows) notes → AreAt (length rows) own
    → lines_text (rows_lines stages (rows ++ row ∷ []) (notes ++ own)) ≡ lines_text (rows_lines stages rows notes) ++ lines_text (row_line row ∷ map (line_of_note stages) own)
unfolding rows_lines
more_text stages rows row notes own all at =
    let end : length rows ≡ 0 + length rows = omega arith in
    ap (λ (ls : List CertLine). lines_text ls) (more_lines stages 0 rows row notes own (length rows) end (before_all (length rows) notes all) at)
    ∙ flat_map-append line_text (lines_from stages 0 rows notes) (row_line row ∷ map (line_of_note stages) own)

pub goes_on : (said : SetNotes) (row : RowHead) (set : ActionSet) (old new : List ℕ) → new ≡ old ++ lines_text (row_line row ∷ map (line_of_note said.stages) (notes_of said 0 set)) → GoOnAs said row set old new
goes_on said row set old new told before rows notes all is =
    let own = notes_of said (length rows) set in
    let lines = row_line row ∷ map (line_of_note said.stages) own in
    let whole = more_text said.stages rows row notes own all (notes_at said (length rows) (places_of set)) in
    told
    ∙ ap (λ (ls : List CertLine). old ++ lines_text (row_line row ∷ ls)) (same_notes said 0 (length rows) (places_of set))
    ∙ ap (λ (t : List ℕ). t ++ lines_text lines) is
    ∙ append_assoc before (lines_text (rows_lines said.stages rows notes)) (lines_text lines)
    ∙ ap (λ (t : List ℕ). before ++ t) (sym whole)
