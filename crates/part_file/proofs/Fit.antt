-- What a table of faces gives: each row has a name, and the faces of the rows meet the rules.
use Rattle.std.proofs.Common.{◌≡◌, ℕ, zero, suc, ◌+◌, ◌<◌, ◌≤◌, Bool, true, false, not, ◌==◌, List, [], ◌∷◌, length, Option, Some, None, Ok, ok_or, codes, if◌then◌else◌, option_and_then, IsTrue, refl, sym, ap, subst, ◌∙◌, ◌⊎◌, inl, inr, leb-true, nat_le, arith}
use Rattle.std.proofs.lemmas.Bool.{cases_Bool, not_from_false}
use Rattle.std.proofs.lemmas.List.FromFn.{get_or-map-range_with_len, length-map-range_with_len}
use Rattle.toml.specs.Data.{Data, Members, as_table}
use Rattle.toml_fields.specs.Fields.{is_name, name_at, text_at, whole_at, has_unknown_key}
use Rattle.toml_fields.specs.Results.{each_from, refuse_if, refuse_first, first_below}
use Rattle.toml_fields.proofs.Bind.{bind_ok, ok_same, ok_or_ok, found_not, checked_is_name}
use Rattle.toml_fields.proofs.Firsts.{none_below}
use Rattle.part_file.specs.declared.fault.PartFault.TheVariants.{BadField, UnknownKey, BadSize, UnknownParent, SameName}
use Rattle.part_file.specs.Part.{FaceData, no_face, face_at, IsFaceOf}
use Rattle.part_file.specs.Rules.{has_namesake, lacks_parent, has_bad_size, is_placed}
use Rattle.part_file.specs.Rows.{FaceRowData}
use Rattle.part_file.specs.PartFile.{side_named, dir_named, root_row, child_row, face_row, row_at, face_of, faces_of, refuse_faces}
use Rattle.part_file.proofs.PartRules.{new_name_decided, placed_decided}

-- a row has a name
abbrev pub IsNamed : FaceRowData → Type 0
IsNamed row = IsTrue (is_name row.name)

root_named : (members : Members) (row : FaceRowData) → root_row members ≡ Ok row → IsNamed row
unfolding root_row
root_named ms row given =
    let name = bind_ok (ok_or (name_at (codes "name") ms) (BadField 1 5)) _ row given in
    let width = bind_ok (ok_or (whole_at (codes "width") ms) (BadField 1 9)) _ row name.2 in
    let length = bind_ok (ok_or (whole_at (codes "length") ms) (BadField 1 10)) _ row width.2 in
    let known = bind_ok (refuse_if (has_unknown_key (codes "name" ∷ codes "width" ∷ codes "length" ∷ []) ms) (UnknownKey 1)) _ row length.2 in
    let read : FaceRowData = record { name = name.0; width = width.0; length = length.0; joint = None } in
    subst IsNamed {x = read} (ok_same read row known.2) (checked_is_name (text_at (codes "name") ms) name.0 (ok_or_ok (name_at (codes "name") ms) (BadField 1 5) name.0 name.1))

child_named : (table : ℕ) (members : Members) (row : FaceRowData) → child_row table members ≡ Ok row → IsNamed row
unfolding child_row
child_named table ms row given =
    let name = bind_ok (ok_or (name_at (codes "name") ms) (BadField table 5)) _ row given in
    let on = bind_ok (ok_or (name_at (codes "on") ms) (BadField table 6)) _ row name.2 in
    let side = bind_ok (ok_or (option_and_then side_named (text_at (codes "side") ms)) (BadField table 7)) _ row on.2 in
    let at = bind_ok (ok_or (whole_at (codes "at") ms) (BadField table 8)) _ row side.2 in
    let width = bind_ok (ok_or (whole_at (codes "width") ms) (BadField table 9)) _ row at.2 in
    let length = bind_ok (ok_or (whole_at (codes "length") ms) (BadField table 10)) _ row width.2 in
    let dir = bind_ok (ok_or (option_and_then dir_named (text_at (codes "dir") ms)) (BadField table 11)) _ row length.2 in
    let known = bind_ok (refuse_if (has_unknown_key (codes "name" ∷ codes "on" ∷ codes "side" ∷ codes "at" ∷ codes "width" ∷ codes "length" ∷ codes "dir" ∷ []) ms) (UnknownKey table)) _ row dir.2 in
    let read : FaceRowData = record { name = name.0; width = width.0; length = length.0; joint = Some (record { on = on.0; side = side.0; at = at.0; dir = dir.0 }) } in
    subst IsNamed {x = read} (ok_same read row known.2) (checked_is_name (text_at (codes "name") ms) name.0 (ok_or_ok (name_at (codes "name") ms) (BadField table 5) name.0 name.1))

-- the row of an item of `face`
row_named : (face : ℕ) (item : Data) (row : FaceRowData) → face_row face item ≡ Ok row → IsNamed row
unfolding face_row
row_named face item row given =
    let table = bind_ok (ok_or (as_table item) (BadField 0 4)) _ row given in
    by_number (cases_Bool (face == 0)) table.0 table.2
  where
    by_number : ((face == 0) ≡ true) ⊎ ((face == 0) ≡ false) → (ms : Members) → (if face == 0 then root_row ms else child_row (1 + face) ms) ≡ Ok row → IsNamed row
    by_number (inl root) ms given = root_named ms row (rw root at given)
    by_number (inr other) ms given = child_named (1 + face) ms row (rw other at given)

-- the rows of all items of `face`
pub rows_named : (first : ℕ) (items : List Data) (rows : List FaceRowData) → each_from face_row first items ≡ Ok rows → (k : ℕ) → k < length rows → IsNamed (row_at rows k)
unfolding each_from
rows_named first [] rows given k within =
    let none : [] ≡ rows = ok_same [] rows given in
    let inside : k < 0 = subst (λ (rs : List FaceRowData). k < length rs) (sym none) within in
    absurd (omega arith)
rows_named first (item ∷ items) rows given zero within =
    let one = bind_ok (face_row first item) _ rows given in
    let rest = bind_ok (each_from face_row (first + 1) items) _ rows one.2 in
    let same : one.0 ∷ rest.0 ≡ rows = ok_same (one.0 ∷ rest.0) rows rest.2 in
    subst (λ (rs : List FaceRowData). IsNamed (row_at rs 0)) same (row_named first item one.0 one.1)
rows_named first (item ∷ items) rows given (suc k) within =
    let one = bind_ok (face_row first item) _ rows given in
    let rest = bind_ok (each_from face_row (first + 1) items) _ rows one.2 in
    let same : one.0 ∷ rest.0 ≡ rows = ok_same (one.0 ∷ rest.0) rows rest.2 in
    let inside : suc k < length (one.0 ∷ rest.0) = subst (λ (rs : List FaceRowData). suc k < length rs) (sym same) within in
    let there : IsNamed (row_at rest.0 k) = rows_named (first + 1) items rest.0 rest.1 k (omega arith) in
    subst (λ (rs : List FaceRowData). IsNamed (row_at rs (suc k))) same there

pub rows_length : (first : ℕ) (items : List Data) (rows : List FaceRowData) → each_from face_row first items ≡ Ok rows → length rows ≡ length items
unfolding each_from
rows_length first [] rows given = let none : [] ≡ rows = ok_same [] rows given in ap length (sym none)
rows_length first (item ∷ items) rows given =
    let one = bind_ok (face_row first item) _ rows given in
    let rest = bind_ok (each_from face_row (first + 1) items) _ rows one.2 in
    let same : one.0 ∷ rest.0 ≡ rows = ok_same (one.0 ∷ rest.0) rows rest.2 in
    let tail : length rest.0 ≡ length items = rows_length (first + 1) items rest.0 rest.1 in
    ap length (sym same) ∙ ap suc tail

-- the items of `face` are at least one
pub some_items : (o : Option (List Data)) (items : List Data) → option_and_then (λ given. if nat_le 1 (length given) then Some given else None) o ≡ Some items → 1 ≤ length items
some_items None items given = absurd (cc)
some_items (Some found) items given = by_test (nat_le 1 (length found)) refl given
  where
    by_test : (b : Bool) → nat_le 1 (length found) ≡ b → (if b then Some found else None) ≡ Some items → 1 ≤ length items
    by_test true is here = let same : found ≡ items = cc in subst (λ (ds : List Data). 1 ≤ length ds) same (leb-true 1 (length found) is)
    by_test false is here = absurd (cc)

-- what isn't refused over all faces
record AreSound (faces : List FaceData) : Type 0 where
  distinct : (f : ℕ) → f < length faces → has_namesake faces f ≡ false
  placed : (f : ℕ) → f < length faces → has_bad_size faces f ≡ false

are_sound : (faces : List FaceData) (u : Unit {0}) → refuse_faces faces ≡ Ok u → AreSound faces
unfolding refuse_faces
are_sound faces u given =
    let distinct = bind_ok (refuse_first (has_namesake faces) (length faces) SameName) _ u given in
    let parents = bind_ok (refuse_first (lacks_parent faces) (length faces) UnknownParent) _ u distinct.2 in
    record {
      distinct = none_below (has_namesake faces) (length faces) (found_not (first_below (has_namesake faces) (length faces)) SameName distinct.0 distinct.1);
      placed = none_below (has_bad_size faces) (length faces) (found_not (first_below (has_bad_size faces) (length faces)) BadSize u parents.2);
    }

-- the face of a number
face_is : (rows : List FaceRowData) (f : ℕ) → f < length rows → face_at (faces_of rows) f ≡ face_of rows f
face_is rows f within = get_or-map-range_with_len (face_of rows) 0 (length rows) f f no_face within (omega arith)

pub faces_length : (rows : List FaceRowData) → length (faces_of rows) ≡ length rows
faces_length rows = length-map-range_with_len (face_of rows) 0 (length rows)

not_not : (b : Bool) → not b ≡ false → b ≡ true
not_not true given = refl
not_not false given = absurd (cc)

-- each face of named rows that are not refused meets the rules
pub face_fits : (rows : List FaceRowData) (u : Unit {0}) → refuse_faces (faces_of rows) ≡ Ok u → ((k : ℕ) → k < length rows → IsNamed (row_at rows k)) → (b : ℕ) → b < length (faces_of rows) → IsFaceOf (faces_of rows) b
face_fits rows u given names b inside =
    let sound = are_sound (faces_of rows) u given in
    let within : b < length rows = omega (arith, faces_length rows, inside) in
    record {
      name = rw (face_is rows b within) (names b within);
      new_name = (new_name_decided (faces_of rows) b inside).0 (not_from_false (has_namesake (faces_of rows) b) (sound.distinct b inside));
      placed = (placed_decided (faces_of rows) b).0 (not_not (is_placed (faces_of rows) b) (sound.placed b inside));
    }
