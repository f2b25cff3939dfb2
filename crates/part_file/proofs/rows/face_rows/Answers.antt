use Rattle.std.proofs.Common.{List, ◌≡◌, ◌++◌, ◌∷◌, [], Ok, Err, map, arith}
use Rattle.std.proofs.lemmas.Result.{err_from_is_err_and}
use Rattle.std.proofs.lemmas.List.{map_push}
use Rattle.toml.specs.View.{view}
use Rattle.toml_fields.proofs.Each.{goes_on, stops, is_done}
use Rattle.part_file.specs.Rows.{FaceRowData, face_row_data}
use Rattle.part_file.specs.PartFile.{face_row}
use Rattle.part_file.proofs.rows.face_rows.Goals as goal

pub loop-item-preserved : goal.loop-item-preserved
loop-item-preserved c =
    let same : c.len.result ≡ c.loop-item.item-index = omega arith in
    let front : List FaceRowData = map face_row_data c.loop-item.rows.items in
    let read : face_row c.loop-item.item-index (view c.item-item.result) ≡ Ok (face_row_data c.in_ok-row.row) = rw (← same) (c.in_ok-row.ensures) in
    let grown : map face_row_data c.push.new.self.items ≡ front ++ face_row_data c.in_ok-row.row ∷ [] = rw c.push.ensures.items (map_push _ c.loop-item.rows.items c.in_ok-row.row) in
    record {
      count = omega arith;
      reads = rw grown (goes_on view face_row c.args.items.now c.item-item.result c.loop-item.item-index c.loop-item.item-index front (face_row_data c.in_ok-row.row) _ c.loop-item-test.true c.item-item.is read c.loop-item.invariant.reads);
    }

pub returns-in_err-row : goal.returns-in_err-row
returns-in_err-row c =
    let p = err_from_is_err_and c.from_residual.result c.from_residual.ensures.1 in
    let same : c.len.result ≡ c.loop-item.item-index = omega arith in
    let failed : face_row c.loop-item.item-index (view c.item-item.result) ≡ Err c.in_err-row.field-0.0 = rw (← same) (c.in_err-row.ensures) in
    rw (p.1, p.2) (stops view face_row c.args.items.now c.item-item.result c.loop-item.item-index c.loop-item.item-index (map face_row_data c.loop-item.rows.items) c.in_err-row.field-0.0 _ c.loop-item-test.true c.item-item.is failed c.loop-item.invariant.reads)

pub returns : goal.returns
returns c = is_done view face_row c.args.items.now c.loop-item.item-index c.loop-item.item-index (map face_row_data c.loop-item.rows.items) _ c.loop-item-test.false c.loop-item.invariant.reads
