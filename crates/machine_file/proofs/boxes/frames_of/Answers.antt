use Rattle.std.proofs.Common.{ℤ, List, ◌≡◌, ◌++◌, ◌∷◌, [], Ok, Err, sym, arith}
use Rattle.std.proofs.lemmas.Result.{err_from_is_err_and}
use Rattle.toml.specs.View.{view}
use Rattle.toml_fields.proofs.Each.{goes_on, stops, is_done}
use Rattle.machine_file.specs.MachineFile.{frame_of}
use Rattle.machine_file.proofs.boxes.frames_of.Goals as goal

pub loop-item-preserved : goal.loop-item-preserved
loop-item-preserved c =
    let front : List (ℤ × ℤ) = c.loop-item.frames.items in
    let read : frame_of c.loop-item.item-index (view c.item-item.result) ≡ Ok c.in_ok-frame.frame = sym c.in_ok-frame.ensures in
    let grown : c.push.new.self.items ≡ front ++ c.in_ok-frame.frame ∷ [] = c.push.ensures.items in
    record {
      count = omega arith;
      reads = rw grown (goes_on view frame_of c.args.items.now c.item-item.result c.loop-item.item-index c.loop-item.item-index front c.in_ok-frame.frame _ c.loop-item-test.true c.item-item.is read c.loop-item.invariant.reads);
    }

pub returns-in_err-frame : goal.returns-in_err-frame
returns-in_err-frame c =
    let p = err_from_is_err_and c.from_residual.result c.from_residual.ensures.1 in
    let failed : frame_of c.loop-item.item-index (view c.item-item.result) ≡ Err c.in_err-frame.field-0.0 = sym c.in_err-frame.ensures in
    rw (p.1, p.2) (stops view frame_of c.args.items.now c.item-item.result c.loop-item.item-index c.loop-item.item-index c.loop-item.frames.items c.in_err-frame.field-0.0 _ c.loop-item-test.true c.item-item.is failed c.loop-item.invariant.reads)

pub returns : goal.returns
returns c = is_done view frame_of c.args.items.now c.loop-item.item-index c.loop-item.item-index c.loop-item.frames.items _ c.loop-item-test.false c.loop-item.invariant.reads
