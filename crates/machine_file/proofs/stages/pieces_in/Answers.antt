use Rattle.std.proofs.Common.{ℤ, List, ◌≡◌, ◌++◌, ◌∷◌, [], Ok, Err, sym, FitsSigned, w64, rules, arith}
use Rattle.std.proofs.lemmas.Int.{to_z-of_z}
use Rattle.std.proofs.lemmas.Result.{err_from_is_err_and}
use Rattle.toml.specs.View.{view}
use Rattle.toml_fields.proofs.Each.{goes_on, stops, is_done}
use Rattle.machine_file.specs.MachineFile.{piece_in}
use Rattle.machine_file.proofs.stages.pieces_in.Goals as goal

pub loop-item-preserved : goal.loop-item-preserved
loop-item-preserved c =
    let fits : FitsSigned w64 c.in_ok-piece.piece = search rules in
    let front : List ℤ = c.loop-item.pieces.items in
    let read : piece_in c.args.table c.loop-item.item-index (view c.item-item.result) ≡ Ok c.in_ok-piece.piece = sym c.in_ok-piece.ensures in
    let grown : c.push.new.self.items ≡ front ++ c.in_ok-piece.piece ∷ [] = simp to_z-of_z at c.push.ensures.items in
    record {
      count = omega arith;
      reads = rw grown (goes_on view (piece_in c.args.table) c.args.items.now c.item-item.result c.loop-item.item-index c.loop-item.item-index front c.in_ok-piece.piece _ c.loop-item-test.true c.item-item.is read c.loop-item.invariant.reads);
    }

pub returns-in_err-piece : goal.returns-in_err-piece
returns-in_err-piece c =
    let p = err_from_is_err_and c.from_residual.result c.from_residual.ensures.1 in
    let failed : piece_in c.args.table c.loop-item.item-index (view c.item-item.result) ≡ Err c.in_err-piece.field-0.0 = sym c.in_err-piece.ensures in
    rw (p.1, p.2) (stops view (piece_in c.args.table) c.args.items.now c.item-item.result c.loop-item.item-index c.loop-item.item-index c.loop-item.pieces.items c.in_err-piece.field-0.0 _ c.loop-item-test.true c.item-item.is failed c.loop-item.invariant.reads)

pub returns : goal.returns
returns c = is_done view (piece_in c.args.table) c.args.items.now c.loop-item.item-index c.loop-item.item-index c.loop-item.pieces.items _ c.loop-item-test.false c.loop-item.invariant.reads
