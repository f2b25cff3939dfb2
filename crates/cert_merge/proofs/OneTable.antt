-- Tables that say the same of each key are the same.
use Rattle.std.proofs.Common.{◌≡◌, inl, inr, ℕ, zero, suc, ◌+◌, ◌<◌, ◌==◌, Bool, true, false, ◌&&◌, List, [], ◌∷◌, length, get_or, map, All, AllPairs, Contains, Option, Some, None, refl, sym, ◌∙◌, ap, subst, arith}
use Rattle.std.specs.Prelude.{◌⊎◌, if◌then◌else◌}
use Rattle.std.proofs.lemmas.Bool.{and_parts, eqb-true}
use Rattle.std.proofs.lemmas.Option.{same_Some}
use Rattle.brake_base.specs.declared.stroke.Key.{Key}
use Rattle.brake_base.specs.declared.reason.Reason.{Reason}
use Rattle.brake_base.specs.Keys.{KeyIsBefore}
use Rattle.cert_lines.specs.declared.row_head.RowHead.{RowHead}
use Rattle.plan_lines.specs.declared.note.Note.{Note}
use Rattle.plan_cert.specs.WellFormed.{NoteIsBefore}
use Rattle.cert_merge.specs.Entries.{Settled, said_of}
use Rattle.cert_merge.specs.Merged.{later_of, noted_by, reason_noted, rows_said}
use Rattle.cert_merge.specs.MergeSteps.{Rows, heads}
use Rattle.cert_merge.proofs.Merging.{one_list}
use Rattle.cert_merge.proofs.Flat.{IsElse, all_map, by_itself, noted_none}
use Rattle.cert_merge.proofs.FlatForm.{pairs_first, pairs_rest, said_ascends, said_heads, said_at}

-- lists in one strict order that have the same elements are the same
module _ {X : Type 0} (R : X → X → Type 0) (one_way : (x y : X) → R x y → R y x → ⊥) where
  in_rest : (x y : X) (ys : List X) → Contains (y ∷ ys) x → (x ≡ y) ⊎ Contains ys x
  in_rest x y ys (zero, within, is) = inl (sym is)
  in_rest x y ys (suc k, within, is) = inr (k, omega (arith, within), is)

  in_more : (x y : X) (ys : List X) → Contains ys x → Contains (y ∷ ys) x
  in_more x y ys (k, within, is) = (suc k, omega (arith, within), is)

  pub of_all : (P : X → Type 0) (xs : List X) (x : X) → All P xs → Contains xs x → P x
  of_all P xs x all (k, within, is) = subst P is (all k x within)

  pub one_order : (xs ys : List X) → AllPairs R xs → AllPairs R ys → ((x : X) → Contains xs x → Contains ys x) → ((x : X) → Contains ys x → Contains xs x) → xs ≡ ys
  one_order [] [] up on to back = refl
  one_order [] (y ∷ ys) up on to back = let at = back y (0, omega arith, refl) in absurd (let within = at.1 in omega (arith, within))
  one_order (x ∷ xs) [] up on to back = let at = to x (0, omega arith, refl) in absurd (let within = at.1 in omega (arith, within))
  one_order (x ∷ xs) (y ∷ ys) up on to back = by_heads (in_rest x y ys (to x (0, omega arith, refl))) (in_rest y x xs (back y (0, omega arith, refl)))
      (λ more less. one_order xs ys (pairs_rest R x xs up) (pairs_rest R y ys on) more less)
    where
      tails : x ≡ y → (((z : X) → Contains xs z → Contains ys z) → ((z : X) → Contains ys z → Contains xs z) → xs ≡ ys) → (x ∷ xs) ≡ (y ∷ ys)
      tails same rest =
          let xs_is = rest
          (λ z at. elim (in_rest z y ys (to z (in_more z x xs at))) [
            | inl is ↦ absurd (let here = of_all (R x) xs z (pairs_first R x xs up) at in let itself = subst (R x) (is ∙ sym same) here in one_way x x itself itself)
            | inr there ↦ there
          ])
          (λ z at. elim (in_rest z x xs (back z (in_more z y ys at))) [
            | inl is ↦ absurd (let here = of_all (R y) ys z (pairs_first R y ys on) at in let itself = subst (R y) (is ∙ same) here in one_way y y itself itself)
            | inr there ↦ there
          ]) in
          λ i. same i ∷ xs_is i

      by_heads : (x ≡ y) ⊎ Contains ys x → (y ≡ x) ⊎ Contains xs y → (((z : X) → Contains xs z → Contains ys z) → ((z : X) → Contains ys z → Contains xs z) → xs ≡ ys) → (x ∷ xs) ≡ (y ∷ ys)
      by_heads (inl same) other rest = tails same rest
      by_heads (inr there) (inl same) rest = tails (sym same) rest
      by_heads (inr there) (inr here) rest = absurd (one_way x y (of_all (R x) xs y (pairs_first R x xs up) here) (of_all (R y) ys x (pairs_first R y ys on) there))

pub note_one_way : (a b : Note) → NoteIsBefore a b → NoteIsBefore b a → ⊥
note_one_way a b (inl less) (inl more) = omega (arith, less, more)
note_one_way a b (inl less) (inr more) = let same = more.0 in omega (arith, less, same)
note_one_way a b (inr less) (inl more) = let same = less.0 in omega (arith, more, same)
note_one_way a b (inr less) (inr more) = let first = less.1 in let second = more.1 in omega (arith, first, second)

from_note : (note : Note) (row action : ℕ) (reason : Reason) → noted_by note row action ≡ Some reason → note ≡ record { row = row; action = action; reason = reason }
from_note note row action reason e = by_test (note.row == row && note.action == action) refl e
  where
    by_test : (b : Bool) → (note.row == row && note.action == action) ≡ b → (if b then Some note.reason else None) ≡ Some reason → note ≡ record { row = row; action = action; reason = reason }
    by_test true is e =
        let parts = and_parts (note.row == row) (note.action == action) is in
        let here = eqb-true note.row row parts.0 in
        let against = eqb-true note.action action parts.1 in
        let told = same_Some note.reason reason e in
        λ i. record { row = here i; action = against i; reason = told i }
    by_test false is e = absurd (cc)

-- a reason that is noted is that of a note
pub noted_is : (notes : List Note) (row action : ℕ) (reason : Reason) → reason_noted notes row action ≡ Some reason → Contains notes (record { row = row; action = action; reason = reason })
noted_is [] row action reason e = absurd (cc)
noted_is (note ∷ notes) row action reason e = by_rest (reason_noted notes row action) refl e (noted_is notes row action reason)
  where
    by_rest : (rest : Option Reason) → reason_noted notes row action ≡ rest → later_of (noted_by note row action) rest ≡ Some reason
        → (reason_noted notes row action ≡ Some reason → Contains notes (record { row = row; action = action; reason = reason })) → Contains (note ∷ notes) (record { row = row; action = action; reason = reason })
    by_rest (Some other) is e more = let at = more (is ∙ e) in (suc at.0, (let within = at.1 in omega (arith, within)), at.2)
    by_rest None is e more = (0, omega arith, from_note note row action reason e)

-- so is the reason of each note of notes in order
after_else : (note other : Note) → NoteIsBefore note other → IsElse note.row note.action other
after_else note other (inl less) there same = omega (arith, less, there)
after_else note other (inr less) there same = let more = less.1 in omega (arith, more, same)

pub is_noted : (notes : List Note) (note : Note) → AllPairs NoteIsBefore notes → Contains notes note → reason_noted notes note.row note.action ≡ Some note.reason
is_noted [] note pairs at = absurd (let within = at.1 in omega (arith, within))
is_noted (first ∷ notes) note pairs (zero, within, is) =
    let none = noted_none notes first.row first.action (all_map (NoteIsBefore first) (IsElse first.row first.action) notes (λ other before. after_else first other before) (pairs_first NoteIsBefore first notes pairs)) in
    let here : reason_noted (first ∷ notes) first.row first.action ≡ Some first.reason =
    ap (λ (o : Option Reason). later_of (noted_by first first.row first.action) o) none ∙ by_itself first first.row first.action refl refl in
    subst (λ (n : Note). reason_noted (first ∷ notes) n.row n.action ≡ Some n.reason) is here
is_noted (first ∷ notes) note pairs (suc k, within, is) =
    ap (λ (o : Option Reason). later_of (noted_by first note.row note.action) o) (is_noted notes note (pairs_rest NoteIsBefore first notes pairs) (k, omega (arith, within), is))

-- rows and notes in order that say the same of each key are the same
module _ (rows others : List RowHead) (notes other_notes : List Note)
    (row_order : AllPairs KeyIsBefore (map (λ row. row.key) rows)) (other_order : AllPairs KeyIsBefore (map (λ row. row.key) others))
    (note_order : AllPairs NoteIsBefore notes) (other_notes_order : AllPairs NoteIsBefore other_notes)
    (of_row : All (λ note. note.row < length rows) notes) (of_other : All (λ note. note.row < length others) other_notes)
    (same : (key : Key) → said_of key (rows_said notes 0 rows) ≡ said_of key (rows_said other_notes 0 others)) where
  said_same : rows_said notes 0 rows ≡ rows_said other_notes 0 others
  said_same = one_list (rows_said notes 0 rows) (rows_said other_notes 0 others) (said_ascends notes 0 rows row_order) (said_ascends other_notes 0 others other_order) same

  pub same_rows : rows ≡ others
  same_rows = sym (said_heads notes 0 rows) ∙ (ap heads said_same ∙ said_heads other_notes 0 others)

  same_reasons : (row action : ℕ) (d : RowHead) → row < length rows → reason_noted notes row action ≡ reason_noted other_notes row action
  same_reasons row action d within =
      let e : Key × Settled = (d.key, record { worth = d.worth; reasons = λ n. None }) in
      let inside : row < length others = subst (λ (hs : List RowHead). row < length hs) same_rows within in
      let at = sym (said_at notes 0 row rows e d within) ∙ (ap (λ (s : Rows). get_or s row e) said_same ∙ said_at other_notes 0 row others e d inside) in
      let zero_more : 0 + row ≡ row = omega arith in
      subst (λ (n : ℕ). reason_noted notes n action ≡ reason_noted other_notes n action) zero_more (ap (λ (s : Key × Settled). s.1.reasons action) at)

  to_other : (d : RowHead) (note : Note) → Contains notes note → Contains other_notes note
  to_other d note at =
      let within : note.row < length rows = subst (λ (n : Note). n.row < length rows) at.2 (of_row at.0 note at.1) in
      noted_is other_notes note.row note.action note.reason (sym (same_reasons note.row note.action d within) ∙ is_noted notes note note_order at)

  from_other : (d : RowHead) (note : Note) → Contains other_notes note → Contains notes note
  from_other d note at =
      let within : note.row < length others = subst (λ (n : Note). n.row < length others) at.2 (of_other at.0 note at.1) in
      let inside : note.row < length rows = subst (λ (hs : List RowHead). note.row < length hs) (sym same_rows) within in
      noted_is notes note.row note.action note.reason (same_reasons note.row note.action d inside ∙ is_noted other_notes note other_notes_order at)

  pub same_notes : (d : RowHead) → notes ≡ other_notes
  same_notes d = one_order NoteIsBefore note_one_way notes other_notes note_order other_notes_order (to_other d) (from_other d)
