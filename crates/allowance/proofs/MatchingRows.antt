-- The rows of a table that match a part.
use Rattle.std.proofs.Common.{Option, Some, None, Bor, ◌≡◌, ℕ, ◌+◌, ◌<◌, true, List, [], ◌∷◌, ◌++◌, length, get_or, take, drop, map, Err, refl, sym, ap, ◌∙◌}
use Rattle.std.specs.Prelude.{All, filter, is_some, option_map, option_to_list}
use Rattle.std.proofs.lemmas.List.{drop_more, take-append-drop, map-append}
use Rattle.std.proofs.lemmas.List.Elements.{All-head, All-tail, All-nil, All-cons, filter-append}
use Rattle.part_file.specs.Part.{PartData}
use Rattle.allowance.specs.declared.table.AllowRow.{AllowRow}
use Rattle.allowance.specs.declared.table.AllowFault.TheVariants.{TwoRows}
use Rattle.allowance.specs.AllowTable.{RowData, row_data, IsAllowRow, matches, only_row, matching_row}

-- the ranges of rows, seen or as they are
pub each_row : (rows : List AllowRow) → All IsAllowRow (map row_data rows) → All (λ row. IsAllowRow (row_data row)) rows
each_row [] ranges = All-nil (λ (row : AllowRow). IsAllowRow (row_data row))
each_row (row ∷ rows) ranges =
    All-cons (λ (row : AllowRow). IsAllowRow (row_data row)) row rows (All-head IsAllowRow (row_data row) (map row_data rows) ranges)
    (each_row rows (All-tail IsAllowRow (row_data row) (map row_data rows) ranges))

second_row : (part : PartData) (xs : List AllowRow) (i : ℕ) (x : RowData) (row : AllowRow) → filter (matches part) (map row_data (take i xs)) ≡ x ∷ [] → i < length xs → row ≡ get_or xs i row → matches part (row_data row) ≡ true
    → matching_row part (map row_data xs) ≡ Err TwoRows
second_row part xs i x row one lt here is_match =
    let split : xs ≡ take i xs ++ (row ∷ drop (i + 1) xs) = sym (take-append-drop i xs) ∙ ap (λ (ys : List AllowRow). take i xs ++ ys) (drop_more xs i row lt ∙ ap (λ (y : AllowRow). y ∷ drop (i + 1) xs) (sym here)) in
    let mapped : map row_data xs ≡ map row_data (take i xs) ++ (row_data row ∷ map row_data (drop (i + 1) xs)) = ap (map row_data) split ∙ map-append row_data (take i xs) (row ∷ drop (i + 1) xs) in
    ap (λ (rows : List RowData). only_row (filter (matches part) rows)) mapped ∙ ap only_row (filter-append (matches part) (map row_data (take i xs)) (row_data row ∷ map row_data (drop (i + 1) xs))) ∙ rw (one, is_match) refl

-- a second row that matches
pub two_rows : (part : PartData) (xs : List AllowRow) (i : ℕ) (found : Option (Bor AllowRow)) (row : AllowRow) → is_some found ≡ true → filter (matches part) (map row_data (take i xs)) ≡ option_to_list (option_map (λ row. row_data row.now) found) → i < length xs → row ≡ get_or xs i row → matches part (row_data row) ≡ true
    → matching_row part (map row_data xs) ≡ Err TwoRows
two_rows part xs i None row some one lt here is_match = absurd cc
two_rows part xs i (Some first) row some one lt here is_match = second_row part xs i (row_data first.now) row one lt here is_match
