-- Rows that are written stand in order, and each note is of its row.
use Rattle.std.proofs.Common.{◌≡◌, inl, inr, ℕ, zero, suc, ◌+◌, ◌<◌, List, [], ◌∷◌, ◌++◌, length, get_or, map, All, AllPairs, Option, Some, None, refl, sym, ◌∙◌, ap, subst, arith, append_assoc}
use Rattle.std.proofs.lemmas.List.Elements.{All-append, All-nil, All-cons}
use Rattle.std.proofs.lemmas.List.Kept.{AllPairs-cons}
use Rattle.std.proofs.lemmas.List.Quantifiers.{all_pairs_push}
use Rattle.std.proofs.Math.Seq.{get_or-append_seam}
use Rattle.brake_base.specs.declared.stroke.Key.{Key}
use Rattle.brake_base.specs.declared.reason.Reason.{Reason}
use Rattle.brake_base.specs.Keys.{KeyIsBefore}
use Rattle.cert_lines.specs.declared.row_head.RowHead.{RowHead}
use Rattle.plan_lines.specs.declared.note.Note.{Note}
use Rattle.plan_cert.specs.WellFormed.{NoteIsBefore}
use Rattle.cert_merge.specs.Entries.{Settled}
use Rattle.cert_merge.specs.Merged.{reason_noted, rows_said}
use Rattle.cert_merge.proofs.Merging.{Each, After, Ascending}
use Rattle.cert_merge.specs.MergeSteps.{Rows, most_actions, noted_as, notes_upto, head_of, heads, flat}
use Rattle.cert_merge.proofs.Flat.{all_map, IsOneOf, notes_are, flat_from}

-- pairs of a list with a first element
module _ {X : Type 0} (R : X → X → Type 0) where
  pub pairs_first : (x : X) (xs : List X) → AllPairs R (x ∷ xs) → All (R x) xs
  pairs_first x xs pairs i d within = pairs 0 (suc i) d (omega arith) (omega (arith, within))

  pub pairs_rest : (x : X) (xs : List X) → AllPairs R (x ∷ xs) → AllPairs R xs
  pairs_rest x xs pairs i j d before within = pairs (suc i) (suc j) d (omega (arith, before)) (omega (arith, within))

  no_pairs : AllPairs R []
  no_pairs i j d before within = absurd (omega (arith, within))

  pub pairs_append : (xs ys : List X) → AllPairs R xs → AllPairs R ys → All (λ x. All (R x) ys) xs → AllPairs R (xs ++ ys)
  pairs_append [] ys pairs others across = others
  pairs_append (x ∷ xs) ys pairs others across =
      AllPairs-cons R x (xs ++ ys) (All-append (R x) xs ys (pairs_first x xs pairs) (across 0 x (omega arith)))
      (pairs_append xs ys (pairs_rest x xs pairs) others (λ i d within. across (suc i) d (omega (arith, within))))

push_one : (row count : ℕ) (reasons : ℕ → Option Reason) (noted : Option Reason) → AllPairs NoteIsBefore (notes_upto row reasons count) → AllPairs NoteIsBefore (notes_upto row reasons count ++ noted_as row count noted)
push_one row count reasons None pairs = pairs_append NoteIsBefore (notes_upto row reasons count) [] pairs (no_pairs NoteIsBefore) (λ i d within. All-nil (NoteIsBefore (get_or (notes_upto row reasons count) i d)))
push_one row count reasons (Some reason) pairs =
    all_pairs_push NoteIsBefore (notes_upto row reasons count) (record { row = row; action = count; reason = reason }) pairs (λ k d within. let is = notes_are row reasons count k d within in inr (is.here, is.below))

pub upto_ordered : (row : ℕ) (reasons : ℕ → Option Reason) (count : ℕ) → AllPairs NoteIsBefore (notes_upto row reasons count)
upto_ordered row reasons zero = no_pairs NoteIsBefore
upto_ordered row reasons (suc count) = push_one row count reasons (reasons count) (upto_ordered row reasons count)

-- the notes of all rows stand in order
pub flat_ordered : (row : ℕ) (rows : Rows) → AllPairs NoteIsBefore (flat row rows)
flat_ordered row [] = no_pairs NoteIsBefore
flat_ordered row (said ∷ more) =
    pairs_append NoteIsBefore (notes_upto row said.1.reasons most_actions) (flat (suc row) more) (upto_ordered row said.1.reasons most_actions) (flat_ordered (suc row) more)
    (λ i d within j e inside.
    let here = (notes_are row said.1.reasons most_actions i d within).here in
    let later = flat_from (suc row) more j e inside in
    inl (omega (arith, here, later)))

-- what holds of the reasons of each row's head holds of its notes
abbrev pub OfReasons : (RowHead → ℕ → Reason → Type 0) → Key → Settled → Type 0
OfReasons Q key said = (action : ℕ) (reason : Reason) → said.reasons action ≡ Some reason → Q (head_of (key, said)) action reason

pub record IsOf (Q : RowHead → ℕ → Reason → Type 0) (rows : List RowHead) (note : Note) : Type 0 where
  pub within : note.row < length rows
  pub each : (d : RowHead) → Q (get_or rows note.row d) note.action note.reason

longer : (done : List RowHead) (head : RowHead) (more : List RowHead) → length done < length (done ++ head ∷ more)
longer [] head more = omega arith
longer (x ∷ done) head more = let less = longer done head more in omega (arith, less)

length_push : (done : List RowHead) (head : RowHead) → length (done ++ head ∷ []) ≡ suc (length done)
length_push [] head = refl
length_push (x ∷ done) head = ap suc (length_push done head)

pub flat_each : (Q : RowHead → ℕ → Reason → Type 0) (row : ℕ) (rows : Rows) (done : List RowHead) → length done ≡ row → Each (OfReasons Q) rows → All (IsOf Q (done ++ heads rows)) (flat row rows)
flat_each Q row [] done count each = All-nil (IsOf Q (done ++ []))
flat_each Q row (said ∷ more) done count each =
    let whole = done ++ head_of said ∷ heads more in
    All-append (IsOf Q whole) (notes_upto row said.1.reasons most_actions) (flat (suc row) more)
    (all_map (IsOneOf row said.1.reasons most_actions) (IsOf Q whole) (notes_upto row said.1.reasons most_actions) own (notes_are row said.1.reasons most_actions))
    (subst (λ (hs : List RowHead). All (IsOf Q hs) (flat (suc row) more)) (append_assoc done (head_of said ∷ []) (heads more))
    (flat_each Q (suc row) more (done ++ head_of said ∷ []) (length_push done (head_of said) ∙ ap suc count) each.1))
  where
    own : (note : Note) → IsOneOf row said.1.reasons most_actions note → IsOf Q (done ++ head_of said ∷ heads more) note
    own note is =
        let at : note.row ≡ length done = is.here ∙ sym count in
        record {
          within = subst (λ (n : ℕ). n < length (done ++ head_of said ∷ heads more)) (sym at) (longer done (head_of said) (heads more));
          each = λ d. subst (λ (h : RowHead). Q h note.action note.reason)
              (sym (ap (λ (n : ℕ). get_or (done ++ head_of said ∷ heads more) n d) at ∙ get_or-append_seam done (head_of said) (heads more) d))
              (each.0 note.action note.reason is.reason);
        }

-- the heads of ascending rows stand in order
after_all : (key : Key) (rows : Rows) → After key rows → All (KeyIsBefore key) (map (λ row. row.key) (heads rows))
after_all key [] after = All-nil (KeyIsBefore key)
after_all key (said ∷ more) after = All-cons (KeyIsBefore key) said.0 (map (λ row. row.key) (heads more)) after.0 (after_all key more after.1)

pub heads_ordered : (rows : Rows) → Ascending rows → AllPairs KeyIsBefore (map (λ row. row.key) (heads rows))
heads_ordered [] up = no_pairs KeyIsBefore
heads_ordered (said ∷ more) up = AllPairs-cons KeyIsBefore said.0 (map (λ row. row.key) (heads more)) (after_all said.0 more up.0) (heads_ordered more up.1)

pub heads_each : (P : RowHead → Type 0) (rows : Rows) → Each (λ key said. P (head_of (key, said))) rows → All P (heads rows)
heads_each P [] each = All-nil P
heads_each P (said ∷ more) each = All-cons P (head_of said) (heads more) each.0 (heads_each P more each.1)

-- rows that stand in order ascend
said_after : (notes : List Note) (row : ℕ) (key : Key) (rows : List RowHead) → All (KeyIsBefore key) (map (λ row. row.key) rows) → After key (rows_said notes row rows)
said_after notes row key [] all = tt
said_after notes row key (head ∷ rows) all = (all 0 key (omega arith), said_after notes (suc row) key rows (λ i d within. all (suc i) d (omega (arith, within))))

pub said_ascends : (notes : List Note) (row : ℕ) (rows : List RowHead) → AllPairs KeyIsBefore (map (λ row. row.key) rows) → Ascending (rows_said notes row rows)
said_ascends notes row [] pairs = tt
said_ascends notes row (head ∷ rows) pairs =
    (said_after notes (suc row) head.key rows (pairs_first KeyIsBefore head.key (map (λ row. row.key) rows) pairs), said_ascends notes (suc row) rows (pairs_rest KeyIsBefore head.key (map (λ row. row.key) rows) pairs))

-- the heads of what rows say are the rows
pub said_heads : (notes : List Note) (row : ℕ) (rows : List RowHead) → heads (rows_said notes row rows) ≡ rows
said_heads notes row [] = refl
said_heads notes row (head ∷ rows) = ap (λ (hs : List RowHead). head ∷ hs) (said_heads notes (suc row) rows)

pub said_each : (P : Key → Settled → Type 0) (notes : List Note) (row : ℕ) (rows : List RowHead)
    → ((k : ℕ) (d : RowHead) → k < length rows → P (get_or rows k d).key (record { worth = (get_or rows k d).worth; reasons = reason_noted notes (row + k) })) → Each P (rows_said notes row rows)
said_each P notes row [] each = tt
said_each P notes row (head ∷ rows) each = (
  subst (λ (n : ℕ). P head.key (record { worth = head.worth; reasons = reason_noted notes n })) (omega arith) (each 0 head (omega arith)),
  said_each P notes (suc row) rows (λ k d within. subst (λ (n : ℕ). P (get_or rows k d).key (record { worth = (get_or rows k d).worth; reasons = reason_noted notes n })) (omega arith) (each (suc k) d (omega (arith, within)))),
)

-- what the row of a number says
pub said_at : (notes : List Note) (row k : ℕ) (rows : List RowHead) (d : Key × Settled) (e : RowHead) → k < length rows
    → get_or (rows_said notes row rows) k d ≡ ((get_or rows k e).key, record { worth = (get_or rows k e).worth; reasons = reason_noted notes (row + k) })
said_at notes row k [] d e within = absurd (omega (arith, within))
said_at notes row zero (head ∷ rows) d e within =
    let same : row ≡ row + 0 = omega arith in
    ap (λ (n : ℕ). (head.key, record { worth = head.worth; reasons = reason_noted notes n })) same
said_at notes row (suc k) (head ∷ rows) d e within =
    let same : suc row + k ≡ row + suc k = omega arith in
    said_at notes (suc row) k rows d e (omega (arith, within)) ∙ ap (λ (n : ℕ). ((get_or rows k e).key, record { worth = (get_or rows k e).worth; reasons = reason_noted notes n })) same

pub length_said : (notes : List Note) (row : ℕ) (rows : List RowHead) → length (rows_said notes row rows) ≡ length rows
length_said notes row [] = refl
length_said notes row (head ∷ rows) = ap suc (length_said notes (suc row) rows)
