-- The text of rows and their notes, row by row.
use Rattle.std.proofs.Common.{◌≡◌, ℕ, suc, ◌+◌, ◌<◌, ◌≤◌, List, ◌∷◌, ◌++◌, length, take, drop, get_or, map, ap, sym, ◌∙◌, subst, arith, append_assoc, drop-cons}
use Rattle.std.specs.List.{flat_map, enumerate_from, prefix_len}
use Rattle.std.proofs.lemmas.Grind.{flat_map-append}
use Rattle.std.proofs.lemmas.List.{append-nil, drop_all}
use Rattle.std.proofs.lemmas.List.Folds.{flat_map-map}
use Rattle.cert_lines.specs.declared.row_head.RowHead.{RowHead}
use Rattle.plan_lines.specs.declared.note.Note.{Note}
use Rattle.cert_lines.specs.Lines.{CertLine, line_text, lines_text, row_line}
use Rattle.plan_cert.specs.CertText.{line_of_note, row_lines, rows_lines}
use Rattle.plan_cert.proofs.NoteOrder.{is_of, Ascend, SplitsAt, split, same_rows}

-- the lines of the rows from a number on, with notes among which are theirs
abbrev pub lines_from : ℕ → ℕ → List RowHead → List Note → List CertLine
lines_from stages i rows notes = flat_map (row_lines stages notes) (enumerate_from i rows)

-- the text of a row, of its notes, and of the rows behind it
row_text : (stages i : ℕ) (row : RowHead) (rows : List RowHead) (rest : List Note) (count : ℕ) → SplitsAt i rest count
    → lines_text (lines_from stages i (row ∷ rows) rest)
    ≡ (line_text (row_line row) ++ flat_map (λ note. line_text (line_of_note stages note)) (take count rest)) ++ lines_text (lines_from stages (i + 1) rows (drop count rest))
row_text stages i row rows rest count s =
    flat_map-append line_text (row_lines stages rest (i, row)) (lines_from stages (i + 1) rows rest)
    ∙ ap (λ (ns : List Note). (line_text (row_line row) ++ lines_text (map (line_of_note stages) ns)) ++ lines_text (lines_from stages (i + 1) rows rest)) (sym s.front)
    ∙ ap (λ (t : List ℕ). (line_text (row_line row) ++ t) ++ lines_text (lines_from stages (i + 1) rows rest)) (flat_map-map line_text (line_of_note stages) (take count rest))
    ∙ ap (λ (ls : List CertLine). (line_text (row_line row) ++ flat_map (λ note. line_text (line_of_note stages note)) (take count rest)) ++ lines_text ls) (sym (same_rows (λ row own. row_line row.1 ∷ map (line_of_note stages) own) (i + 1) rows (drop count rest) rest (λ j le. s.others j (omega arith))))

-- one more row with its notes
pub rows_more : (stages i : ℕ) (rows : List RowHead) (rest : List Note) (row : RowHead) (count : ℕ) (whole a b c : List ℕ) → i < length rows → row ≡ get_or rows i row → count ≡ prefix_len (is_of i) rest → Ascend i rest
    → a ++ lines_text (lines_from stages i (drop i rows) rest) ≡ whole
    → b ≡ a ++ line_text (row_line row) → c ≡ b ++ flat_map (λ note. line_text (line_of_note stages note)) (take count rest)
    → (c ++ lines_text (lines_from stages (i + 1) (drop (i + 1) rows) (drop count rest)) ≡ whole) × Ascend (i + 1) (drop count rest)
rows_more stages i rows rest row count whole a b c within at is up told first second =
    let s : SplitsAt i rest count = subst (λ n. SplitsAt i rest n) (sym is) (split i rest up) in
    let one : suc i ≡ i + 1 = omega arith in
    let after = lines_text (lines_from stages (i + 1) (drop (suc i) rows) (drop count rest)) in
    let text = line_text (row_line row) in
    let notes = flat_map (λ note. line_text (line_of_note stages note)) (take count rest) in
    let begun : c ++ after ≡ a ++ ((text ++ notes) ++ after) =
    ap (λ (t : List ℕ). t ++ after) (second ∙ ap (λ (t : List ℕ). t ++ notes) first ∙ append_assoc a text notes) ∙ append_assoc a (text ++ notes) after in
    let all : c ++ after ≡ whole =
    begun ∙ ap (λ (t : List ℕ). a ++ t) (sym (row_text stages i row (drop (suc i) rows) rest count s)) ∙ ap (λ (rs : List RowHead). a ++ lines_text (lines_from stages i rs rest)) (ap (λ (r : RowHead). r ∷ drop (suc i) rows) at ∙ sym (drop-cons rows i row within)) ∙ told in
    (subst (λ (n : ℕ). c ++ lines_text (lines_from stages (i + 1) (drop n rows) (drop count rest)) ≡ whole) one all, subst (λ n. Ascend n (drop count rest)) one s.rest)

-- no row is left
pub rows_done : (stages i : ℕ) (rows : List RowHead) (rest notes : List Note) (front a : List ℕ) → length rows ≤ i
    → a ++ lines_text (lines_from stages i (drop i rows) rest) ≡ front ++ lines_text (lines_from stages 0 rows notes)
    → a ≡ front ++ lines_text (rows_lines stages rows notes)
unfolding rows_lines
rows_done stages i rows rest notes front a over told =
    sym (append-nil a) ∙ ap (λ (rs : List RowHead). a ++ lines_text (lines_from stages i rs rest)) (sym (drop_all i rows over)) ∙ told
