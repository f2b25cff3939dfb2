-- The notes of each row, where notes stand in the order of their rows.
use Rattle.std.proofs.Common.{◌≡◌, inl, inr, ℕ, zero, suc, ◌+◌, ◌<◌, ◌≤◌, ◌==◌, Bool, true, false, cond, List, [], ◌∷◌, length, take, drop, filter, get_or, All, AllPairs, ap, sym, ◌∙◌, refl, subst, eqb-true, arith}
use Rattle.std.specs.Prelude.{◌++◌}
use Rattle.std.specs.List.{prefix_len, flat_map, enumerate_from}
use Rattle.std.proofs.lemmas.Grind.{common_steps}
use Rattle.cert_lines.specs.declared.row_head.RowHead.{RowHead}
use Rattle.plan_lines.specs.declared.note.Note.{Note}
use Rattle.plan_cert.specs.WellFormed.{NoteIsBefore}

-- the note is of the row
abbrev pub is_of : ℕ → Note → Bool
is_of row note = note.row == row

-- the notes are of rows from this one on, in order
abbrev pub Ascend : ℕ → List Note → Type 0
Ascend row [] = Unit {0}
Ascend row (note ∷ notes) = (row ≤ note.row) × Ascend note.row notes

not_later : (a b : Note) → NoteIsBefore a b → a.row ≤ b.row
not_later a b (inl before) = omega arith
not_later a b (inr same) = omega (arith, same.0)

pub ascend : (row : ℕ) (notes : List Note) → ((d : Note) → 0 < length notes → row ≤ (get_or notes 0 d).row) → AllPairs NoteIsBefore notes → Ascend row notes
ascend row [] first pairs = tt
ascend row (note ∷ notes) first pairs =
    (first note (omega arith), ascend note.row notes (λ d some. not_later note (get_or notes 0 d) (pairs 0 1 d (omega arith) (omega arith))) (λ i j d lt within. pairs (suc i) (suc j) d (omega arith) (omega arith)))

earlier : (row next : ℕ) (notes : List Note) → row ≤ next → Ascend next notes → Ascend row notes
earlier row next [] le up = tt
earlier row next (note ∷ notes) le up = (omega (arith, le, up.0), up.1)

pub of_another : (a b : ℕ) → a < b → ((a == b) ≡ false) × ((b == a) ≡ false)
of_another a b lt = (grind (arith, common_steps), grind (arith, common_steps))

-- what is kept of the notes of a row
pub tested : (row : ℕ) (note : Note) (notes : List Note) (b : Bool) → is_of row note ≡ b → filter (is_of row) (note ∷ notes) ≡ cond b (note ∷ filter (is_of row) notes) (filter (is_of row) notes)
tested row note notes b e = ap (λ (b : Bool). cond b (note ∷ filter (is_of row) notes) (filter (is_of row) notes)) e

pub none_of : (row : ℕ) (notes : List Note) → All (λ note. row < note.row) notes → filter (is_of row) notes ≡ []
none_of row [] later = refl
none_of row (note ∷ notes) later = tested row note notes false (of_another row note.row (later 0 note (omega arith))).1 ∙ none_of row notes (λ k d within. later (suc k) d (omega arith))

all_later : (row next : ℕ) (notes : List Note) → row < next → Ascend next notes → All (λ note. row < note.row) notes
all_later row next [] lt up k d within = absurd (omega arith)
all_later row next (note ∷ notes) lt up zero d within = omega (arith, lt, up.0)
all_later row next (note ∷ notes) lt up (suc k) d within = all_later row note.row notes (omega (arith, lt, up.0)) up.1 k d (omega arith)

-- rows of which the same notes are theirs
pub same_rows : {B : Type 0} (of : ℕ × RowHead → List Note → List B) (i : ℕ) (rows : List RowHead) (some notes : List Note) → ((j : ℕ) → i ≤ j → filter (is_of j) some ≡ filter (is_of j) notes)
    → flat_map (λ (row : ℕ × RowHead). of row (filter (is_of row.0) some)) (enumerate_from i rows) ≡ flat_map (λ (row : ℕ × RowHead). of row (filter (is_of row.0) notes)) (enumerate_from i rows)
same_rows of i [] some notes same = refl
same_rows of i (row ∷ rows) some notes same =
    ap (λ (own : List Note). of (i, row) own ++ flat_map (λ (row : ℕ × RowHead). of row (filter (is_of row.0) some)) (enumerate_from (i + 1) rows)) (same i (omega arith))
    ∙ ap (λ bs. of (i, row) (filter (is_of i) notes) ++ bs) (same_rows of (i + 1) rows some notes (λ j le. same j (omega arith)))

-- the first so many notes are those of the row, and the others are of later rows
pub record SplitsAt (row : ℕ) (notes : List Note) (count : ℕ) : Type 0 where
  pub front : take count notes ≡ filter (is_of row) notes
  pub rest : Ascend (suc row) (drop count notes)
  pub others : (later : ℕ) → row < later → filter (is_of later) (drop count notes) ≡ filter (is_of later) notes

counted : (row : ℕ) (note : Note) (notes : List Note) (b : Bool) → is_of row note ≡ b → Ascend row (note ∷ notes) → SplitsAt row notes (prefix_len (is_of row) notes)
    → SplitsAt row (note ∷ notes) (cond b (1 + prefix_len (is_of row) notes) 0)
counted row note notes true e up s =
    let one : suc (prefix_len (is_of row) notes) ≡ 1 + prefix_len (is_of row) notes = omega arith in
    let same = eqb-true note.row row e in
    subst (λ n. SplitsAt row (note ∷ notes) n) one (record {
      front = ap (λ (t : List Note). note ∷ t) s.front ∙ sym (tested row note notes true e);
      rest = s.rest;
      others = λ later lt. s.others later lt ∙ sym (tested later note notes false (of_another note.row later (omega (arith, same, lt))).0);
    })
counted row note notes false e up s =
    let after : suc row ≤ note.row = grind (arith, common_steps, e, up.0) in
    record {
      front = sym (none_of row (note ∷ notes) (all_later row (suc row) (note ∷ notes) (omega arith) (after, up.1)));
      rest = (after, up.1);
      others = λ later lt. refl;
    }

pub split : (row : ℕ) (notes : List Note) → Ascend row notes → SplitsAt row notes (prefix_len (is_of row) notes)
split row [] up = record { front = refl; rest = tt; others = λ later lt. refl }
split row (note ∷ notes) up = counted row note notes (is_of row note) refl up (split row notes (earlier row note.row notes up.0 up.1))
