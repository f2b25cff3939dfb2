-- Rows with their reasons, written as heads and notes.
use Rattle.std.proofs.Common.{◌≡◌, inl, inr, ℕ, zero, suc, ◌<◌, ◌≤◌, ◌==◌, Bool, false, ◌&&◌, List, [], ◌∷◌, ◌++◌, get_or, All, Option, Some, None, refl, sym, ◌∙◌, ap, arith, append_assoc, eq-eqb}
use Rattle.std.specs.Prelude.{◌⊎◌, if◌then◌else◌}
use Rattle.std.proofs.lemmas.Bool.{false_from_ne_true, and_parts, eqb-true, cases_lt, and_from}
use Rattle.std.proofs.lemmas.List.Elements.{All-append, All-nil, All-cons}
use Rattle.brake_base.specs.declared.stroke.Key.{Key}
use Rattle.brake_base.specs.declared.reason.Reason.{Reason}
use Rattle.plan_lines.specs.declared.note.Note.{Note}
use Rattle.cert_merge.specs.Entries.{Settled}
use Rattle.cert_merge.specs.Merged.{later_of, noted_by, reason_noted, rows_said}
use Rattle.cert_merge.specs.MergeSteps.{Rows, most_actions, noted_as, notes_upto, heads, flat}
use Rattle.cert_merge.proofs.Merging.{Each}

-- against no action from the last on a reason is noted
abbrev pub Fits : Key → Settled → Type 0
Fits key said = (action : ℕ) → most_actions ≤ action → said.reasons action ≡ None

pub later_none : (a : Option Reason) → later_of None a ≡ a
later_none None = refl
later_none (Some a) = refl

later_through : (a b c : Option Reason) → later_of a (later_of b c) ≡ later_of (later_of a b) c
later_through a b None = refl
later_through a b (Some c) = refl

pub noted_append : (xs ys : List Note) (row action : ℕ) → reason_noted (xs ++ ys) row action ≡ later_of (reason_noted xs row action) (reason_noted ys row action)
noted_append [] ys row action = sym (later_none (reason_noted ys row action))
noted_append (note ∷ xs) ys row action =
    ap (λ (o : Option Reason). later_of (noted_by note row action) o) (noted_append xs ys row action)
    ∙ later_through (noted_by note row action) (reason_noted xs row action) (reason_noted ys row action)

-- the note is against another action or at another row
abbrev pub IsElse : ℕ → ℕ → Note → Type 0
IsElse row action note = (note.row ≡ row) → (note.action ≡ action) → ⊥

pub not_by : (note : Note) (row action : ℕ) → IsElse row action note → noted_by note row action ≡ None
not_by note row action other =
    let test : (note.row == row && note.action == action) ≡ false =
    false_from_ne_true (note.row == row && note.action == action) (λ e. let parts = and_parts (note.row == row) (note.action == action) e in other (eqb-true note.row row parts.0) (eqb-true note.action action parts.1)) in
    ap (λ (b : Bool). if b then Some note.reason else None) test

pub by_itself : (note : Note) (row action : ℕ) → note.row ≡ row → note.action ≡ action → noted_by note row action ≡ Some note.reason
by_itself note row action one two =
    ap (λ (b : Bool). if b then Some note.reason else None) (and_from (note.row == row) (note.action == action) (eq-eqb note.row row one) (eq-eqb note.action action two))

pub noted_none : (notes : List Note) (row action : ℕ) → All (IsElse row action) notes → reason_noted notes row action ≡ None
noted_none [] row action all = refl
noted_none (note ∷ notes) row action all =
    ap (λ (o : Option Reason). later_of o (reason_noted notes row action)) (not_by note row action (all 0 note (omega arith)))
    ∙ (later_none (reason_noted notes row action) ∙ noted_none notes row action (λ i d within. all (suc i) d (omega (arith, within))))

-- what the notes of a row are
pub record IsOneOf (row : ℕ) (reasons : ℕ → Option Reason) (count : ℕ) (note : Note) : Type 0 where
  pub here : note.row ≡ row
  pub below : note.action < count
  pub reason : reasons note.action ≡ Some note.reason

-- a property of each note goes over
pub all_map : (P Q : Note → Type 0) (notes : List Note) → ((note : Note) → P note → Q note) → All P notes → All Q notes
all_map P Q notes to all i d within = to (get_or notes i d) (all i d within)

noted_one : (row count : ℕ) (reasons : ℕ → Option Reason) (noted : Option Reason) → reasons count ≡ noted → All (IsOneOf row reasons (suc count)) (noted_as row count noted)
noted_one row count reasons None is = All-nil (IsOneOf row reasons (suc count))
noted_one row count reasons (Some reason) is = All-cons (IsOneOf row reasons (suc count)) (record { row = row; action = count; reason = reason }) [] (record { here = refl; below = omega arith; reason = is }) (All-nil (IsOneOf row reasons (suc count)))

pub notes_are : (row : ℕ) (reasons : ℕ → Option Reason) (count : ℕ) → All (IsOneOf row reasons count) (notes_upto row reasons count)
notes_are row reasons zero = All-nil (IsOneOf row reasons 0)
notes_are row reasons (suc count) = All-append (IsOneOf row reasons (suc count)) (notes_upto row reasons count) (noted_as row count (reasons count))
    (all_map (IsOneOf row reasons count) (IsOneOf row reasons (suc count)) (notes_upto row reasons count) (λ note is. record { here = is.here; below = let less = is.below in omega (arith, less); reason = is.reason }) (notes_are row reasons count))
    (noted_one row count reasons (reasons count) refl)

noted_single : (row action : ℕ) (noted : Option Reason) → reason_noted (noted_as row action noted) row action ≡ noted
noted_single row action None = refl
noted_single row action (Some reason) = by_itself (record { row = row; action = action; reason = reason }) row action refl refl

single_else : (row count action : ℕ) (noted : Option Reason) → action < count → All (IsElse row action) (noted_as row count noted)
single_else row count action None less = All-nil (IsElse row action)
single_else row count action (Some reason) less = All-cons (IsElse row action) (record { row = row; action = count; reason = reason }) [] (λ there same. omega (arith, less, same)) (All-nil (IsElse row action))

-- of the actions below the count the reasons are told
pub noted_upto : (row : ℕ) (reasons : ℕ → Option Reason) (count action : ℕ) → action < count → reason_noted (notes_upto row reasons count) row action ≡ reasons action
noted_upto row reasons zero action less = absurd (omega (arith, less))
noted_upto row reasons (suc count) action less =
    noted_append (notes_upto row reasons count) (noted_as row count (reasons count)) row action ∙ elim (cases_lt action count) [
      | inl below ↦
          let none = noted_none (noted_as row count (reasons count)) row action (single_else row count action (reasons count) below) in
          ap (λ (o : Option Reason). later_of (reason_noted (notes_upto row reasons count) row action) o) none ∙ noted_upto row reasons count action below
      | inr above ↦
          let same : action ≡ count = omega (arith, above, less) in
          let none : reason_noted (notes_upto row reasons count) row action ≡ None =
          noted_none (notes_upto row reasons count) row action (all_map (IsOneOf row reasons count) (IsElse row action) (notes_upto row reasons count) (λ note is there one. let low = is.below in omega (arith, low, one, same)) (notes_are row reasons count)) in
          ap (λ (o : Option Reason). later_of o (reason_noted (noted_as row count (reasons count)) row action)) none
          ∙ (later_none (reason_noted (noted_as row count (reasons count)) row action)
          ∙ (ap (λ (n : ℕ). reason_noted (noted_as row count (reasons count)) row n) same ∙ (noted_single row count (reasons count) ∙ ap reasons (sym same))))
    ]

-- those of the actions from the count on aren't
pub noted_past : (row : ℕ) (reasons : ℕ → Option Reason) (count action : ℕ) → count ≤ action → reason_noted (notes_upto row reasons count) row action ≡ None
noted_past row reasons count action past =
    noted_none (notes_upto row reasons count) row action (all_map (IsOneOf row reasons count) (IsElse row action) (notes_upto row reasons count) (λ note is there one. let low = is.below in omega (arith, low, one, past)) (notes_are row reasons count))

-- notes of rows before and from a number
abbrev pub RowsBelow : ℕ → List Note → Type 0
RowsBelow row notes = All (λ note. note.row < row) notes

abbrev pub RowsFrom : ℕ → List Note → Type 0
RowsFrom row notes = All (λ note. row ≤ note.row) notes

pub flat_from : (row : ℕ) (rows : Rows) → RowsFrom row (flat row rows)
flat_from row [] = All-nil (λ (note : Note). row ≤ note.row)
flat_from row (said ∷ more) = All-append (λ (note : Note). row ≤ note.row) (notes_upto row said.1.reasons most_actions) (flat (suc row) more)
    (all_map (IsOneOf row said.1.reasons most_actions) (λ (note : Note). row ≤ note.row) (notes_upto row said.1.reasons most_actions) (λ note is. let here = is.here in omega (arith, here)) (notes_are row said.1.reasons most_actions))
    (all_map (λ (note : Note). suc row ≤ note.row) (λ (note : Note). row ≤ note.row) (flat (suc row) more) (λ note from. omega (arith, from)) (flat_from (suc row) more))

upto_below : (row : ℕ) (reasons : ℕ → Option Reason) (count : ℕ) → RowsBelow (suc row) (notes_upto row reasons count)
upto_below row reasons count = all_map (IsOneOf row reasons count) (λ (note : Note). note.row < suc row) (notes_upto row reasons count) (λ note is. let here = is.here in omega (arith, here)) (notes_are row reasons count)

pub below_else : (row action : ℕ) (notes : List Note) → RowsBelow row notes → All (IsElse row action) notes
below_else row action notes below = all_map (λ (note : Note). note.row < row) (IsElse row action) notes (λ note low there same. omega (arith, low, there)) below

pub from_else : (row action : ℕ) (notes : List Note) → RowsFrom (suc row) notes → All (IsElse row action) notes
from_else row action notes from = all_map (λ (note : Note). suc row ≤ note.row) (IsElse row action) notes (λ note high there same. omega (arith, high, there)) from

-- the reasons of a row among the notes of all
row_noted : (row : ℕ) (said : Key × Settled) (more : Rows) (before : List Note) → RowsBelow row before → Fits said.0 said.1 → (action : ℕ) → reason_noted (before ++ flat row (said ∷ more)) row action ≡ said.1.reasons action
row_noted row said more before below fits action =
    let own = notes_upto row said.1.reasons most_actions in
    let late = flat (suc row) more in
    let none = noted_none before row action (below_else row action before below) in
    let after = noted_none late row action (from_else row action late (flat_from (suc row) more)) in
    noted_append before (own ++ late) row action
    ∙ (ap (λ (o : Option Reason). later_of o (reason_noted (own ++ late) row action)) none
    ∙ (later_none (reason_noted (own ++ late) row action)
    ∙ (noted_append own late row action
    ∙ (ap (λ (o : Option Reason). later_of (reason_noted own row action) o) after
    ∙ by_count (cases_lt action most_actions)))))
  where
    by_count : (action < most_actions) ⊎ (most_actions ≤ action) → reason_noted (notes_upto row said.1.reasons most_actions) row action ≡ said.1.reasons action
    by_count (inl less) = noted_upto row said.1.reasons most_actions action less
    by_count (inr past) = noted_past row said.1.reasons most_actions action past ∙ sym (fits action past)

-- rows that are written say what they said
pub flat_says : (row : ℕ) (rows : Rows) (before : List Note) → RowsBelow row before → Each Fits rows → rows_said (before ++ flat row rows) row (heads rows) ≡ rows
flat_says row [] before below fits = refl
flat_says row (said ∷ more) before below fits =
    let own = notes_upto row said.1.reasons most_actions in
    let here = row_noted row said more before below fits.0 in
    let on : RowsBelow (suc row) (before ++ own) = All-append (λ (note : Note). note.row < suc row) before own
    (all_map (λ (note : Note). note.row < row) (λ (note : Note). note.row < suc row) before (λ note low. omega (arith, low)) below) (upto_below row said.1.reasons most_actions) in
    let rest : rows_said (before ++ flat row (said ∷ more)) (suc row) (heads more) ≡ more =
    ap (λ (notes : List Note). rows_said notes (suc row) (heads more)) (sym (append_assoc before own (flat (suc row) more))) ∙ flat_says (suc row) more (before ++ own) on fits.1 in
    λ i. (said.0, record { worth = said.1.worth; reasons = λ action. here action i }) ∷ rest i
