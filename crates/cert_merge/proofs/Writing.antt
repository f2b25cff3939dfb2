-- Rows of a merge, written one by one.
use Rattle.std.proofs.Common.{◌≡◌, ℕ, suc, ◌+◌, List, [], ◌∷◌, ◌++◌, length, refl, sym, ◌∙◌, ap, arith, append_assoc}
use Rattle.std.proofs.lemmas.List.{append-nil, length-map}
use Rattle.brake_base.specs.declared.stroke.Key.{Key}
use Rattle.cert_lines.specs.declared.row_head.RowHead.{RowHead}
use Rattle.plan_lines.specs.declared.note.Note.{Note}
use Rattle.cert_merge.specs.Table.{TableData}
use Rattle.cert_merge.specs.Entries.{Settled}
use Rattle.cert_merge.specs.MergeSteps.{Rows, heads, head_of, flat, notes_upto, most_actions, written, with_row}

pub heads_push : (rows : Rows) (row : Key × Settled) → heads (rows ++ row ∷ []) ≡ heads rows ++ head_of row ∷ []
heads_push [] row = refl
heads_push (r ∷ rows) row = ap (λ (hs : List RowHead). head_of r ∷ hs) (heads_push rows row)

pub flat_push : (from : ℕ) (rows : Rows) (row : Key × Settled) → flat from (rows ++ row ∷ []) ≡ flat from rows ++ notes_upto (from + length rows) row.1.reasons most_actions
flat_push from [] row =
    let none : from ≡ from + 0 = omega arith in
    append-nil (notes_upto from row.1.reasons most_actions) ∙ ap (λ (n : ℕ). notes_upto n row.1.reasons most_actions) none
flat_push from (r ∷ rows) row =
    let more : suc from + length rows ≡ from + suc (length rows) = omega arith in
    let own = notes_upto from r.1.reasons most_actions in
    ap (λ (ns : List Note). own ++ ns) (flat_push (suc from) rows row ∙ ap (λ (n : ℕ). flat (suc from) rows ++ notes_upto n row.1.reasons most_actions) more)
    ∙ sym (append_assoc own (flat (suc from) rows) (notes_upto (from + suc (length rows)) row.1.reasons most_actions))

-- another row is written
pub written_more : (rows : Rows) (said : Key × Settled) (t : TableData) → t ≡ written rows → with_row t said ≡ written (rows ++ said ∷ [])
written_more rows said t is =
    ap (λ (x : TableData). with_row x said) is
    ∙ (λ i. record {
      rows = sym (heads_push rows said) i;
      notes = (ap (λ (n : ℕ). flat 0 rows ++ notes_upto n said.1.reasons most_actions) (length-map rows head_of ∙ counted) ∙ sym (flat_push 0 rows said)) i;
    })
  where
    counted : length rows ≡ 0 + length rows
    counted = omega arith
