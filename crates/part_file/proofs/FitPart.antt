-- Each part that a file gives meets the rules of the part file.
use Rattle.std.proofs.Common.{◌≡◌, ℕ, ◌≤◌, unsigned_abs, ◌%◌, ◌==◌, true, false, not, Bool, [], ◌∷◌, codes, length, nat_lt, Ok, ok_or, refl, subst, eqb-true, ltb-false, arith}
use Rattle.toml.specs.Data.{Members}
use Rattle.toml_fields.specs.Fields.{name_at, text_at, whole_at, has_unknown_key}
use Rattle.toml_fields.specs.Lists.{tables_at}
use Rattle.toml_fields.specs.Results.{each_from, refuse_if}
use Rattle.toml_fields.proofs.Bind.{bind_ok, ok_same, ok_or_ok, refused_not, checked_is_name, checked_is_within}
use Rattle.part_file.specs.Bounds.{least_thickness, greatest_thickness, least_radius, greatest_radius, most_faces}
use Rattle.part_file.specs.declared.fault.PartFault.TheVariants.{BadField, UnknownKey, TooMany, OddThickness}
use Rattle.part_file.specs.Part.{PartData, IsThickness, IsRadius, IsPart}
use Rattle.part_file.specs.PartFile.{face_items, face_row, faces_of, refuse_faces, thickness_of, radius_of, part_of_table}
use Rattle.part_file.proofs.Fit.{rows_named, rows_length, some_items, faces_length, face_fits}

even_is : (n : ℕ) → not (n == 0) ≡ false → n ≡ 0
even_is n given = by_test (n == 0) refl given
  where
    by_test : (b : Bool) → (n == 0) ≡ b → not b ≡ false → n ≡ 0
    by_test true is here = eqb-true n 0 is
    by_test false is here = absurd (cc)

pub table_fits : (ms : Members) (p : PartData) → part_of_table ms ≡ Ok p → IsPart p
unfolding part_of_table
table_fits ms p given =
    let material = bind_ok (ok_or (name_at (codes "material") ms) (BadField 0 1)) _ p given in
    let thickness = bind_ok (ok_or (thickness_of ms) (BadField 0 2)) _ p material.2 in
    let radius = bind_ok (ok_or (radius_of ms) (BadField 0 3)) _ p thickness.2 in
    let items = bind_ok (ok_or (face_items ms) (BadField 0 4)) _ p radius.2 in
    let known = bind_ok (refuse_if (has_unknown_key (codes "material" ∷ codes "thickness" ∷ codes "radius" ∷ codes "face" ∷ []) ms) (UnknownKey 0)) _ p items.2 in
    let few = bind_ok (refuse_if (nat_lt most_faces (length items.0)) TooMany) _ p known.2 in
    let rows = bind_ok (each_from face_row 0 items.0) _ p few.2 in
    let sound = bind_ok (refuse_faces (faces_of rows.0)) _ p rows.2 in
    let even = bind_ok (refuse_if (not (unsigned_abs thickness.0 % 2 == 0)) OddThickness) _ p sound.2 in
    let read : PartData = record { material = material.0; thickness = thickness.0; radius = radius.0; faces = faces_of rows.0 } in
    let same : read ≡ p = ok_same read p even.2 in
    let count : length rows.0 ≡ length items.0 = rows_length 0 items.0 rows.0 rows.1 in
    let faces : length (faces_of rows.0) ≡ length rows.0 = faces_length rows.0 in
    let some : 1 ≤ length items.0 = some_items (tables_at (codes "face") ms) items.0 (ok_or_ok (face_items ms) (BadField 0 4) items.0 items.1) in
    let at_most : length items.0 ≤ most_faces = ltb-false most_faces (length items.0) (refused_not (nat_lt most_faces (length items.0)) TooMany few.0 few.1) in
    let thick : IsThickness thickness.0 = record {
      range = checked_is_within least_thickness greatest_thickness (whole_at (codes "thickness") ms) thickness.0 (ok_or_ok (thickness_of ms) (BadField 0 2) thickness.0 thickness.1);
      even = even_is (unsigned_abs thickness.0 % 2) (refused_not (not (unsigned_abs thickness.0 % 2 == 0)) OddThickness even.0 even.1);
    } in
    let round : IsRadius radius.0 = checked_is_within least_radius greatest_radius (whole_at (codes "radius") ms) radius.0 (ok_or_ok (radius_of ms) (BadField 0 3) radius.0 radius.1) in
    let fits : IsPart read = record {
      sheet = record { material = checked_is_name (text_at (codes "material") ms) material.0 (ok_or_ok (name_at (codes "material") ms) (BadField 0 1) material.0 material.1); thickness = thick; radius = round };
      some_face = omega arith;
      few_faces = omega arith;
      each_face = face_fits rows.0 sound.0 sound.1 (rows_named 0 items.0 rows.0 rows.1);
    } in
    subst (λ (part : PartData). IsPart part) {x = read} same fits
