use Rattle.std.proofs.Common.{List, ◌≡◌, ◌++◌, ◌∷◌, [], Ok, Err, sym, arith}
use Rattle.std.proofs.lemmas.Result.{err_from_is_err_and}
use Rattle.toml.specs.View.{view}
use Rattle.toml_fields.proofs.Each.{goes_on, stops, is_done}
use Rattle.machine_file.specs.declared.machine.Fixed.{Fixed}
use Rattle.machine_file.specs.MachineFile.{fixed_between}
use Rattle.machine_file.proofs.boxes.boxes_between.Goals as goal

pub loop-item-preserved : goal.loop-item-preserved
loop-item-preserved c =
    let front : List Fixed = c.loop-item.boxes.items in
    let read : fixed_between c.args.heights.now.lowest c.args.heights.now.highest c.loop-item.item-index (view c.item-item.result) ≡ Ok c.in_ok-fixed.fixed = sym c.in_ok-fixed.ensures in
    let grown : c.push.new.self.items ≡ front ++ c.in_ok-fixed.fixed ∷ [] = c.push.ensures.items in
    record {
      count = omega arith;
      reads = rw grown (goes_on view (fixed_between c.args.heights.now.lowest c.args.heights.now.highest) c.args.items.now c.item-item.result c.loop-item.item-index c.loop-item.item-index front c.in_ok-fixed.fixed _ c.loop-item-test.true c.item-item.is read c.loop-item.invariant.reads);
    }

pub returns-in_err-fixed : goal.returns-in_err-fixed
returns-in_err-fixed c =
    let p = err_from_is_err_and c.from_residual.result c.from_residual.ensures.1 in
    let failed : fixed_between c.args.heights.now.lowest c.args.heights.now.highest c.loop-item.item-index (view c.item-item.result) ≡ Err c.in_err-fixed.field-0.0 = sym c.in_err-fixed.ensures in
    rw (p.1, p.2) (stops view (fixed_between c.args.heights.now.lowest c.args.heights.now.highest) c.args.items.now c.item-item.result c.loop-item.item-index c.loop-item.item-index c.loop-item.boxes.items c.in_err-fixed.field-0.0 _ c.loop-item-test.true c.item-item.is failed c.loop-item.invariant.reads)

pub returns : goal.returns
returns c = is_done view (fixed_between c.args.heights.now.lowest c.args.heights.now.highest) c.args.items.now c.loop-item.item-index c.loop-item.item-index c.loop-item.boxes.items _ c.loop-item-test.false c.loop-item.invariant.reads
