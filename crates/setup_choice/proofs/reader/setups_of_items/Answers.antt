use Rattle.std.proofs.Common.{List, ◌≡◌, ◌+◌, ◌++◌, ◌∷◌, [], map, length, refl, arith}
use Rattle.std.proofs.lemmas.Result.{err_from_is_err_and}
use Rattle.std.proofs.lemmas.List.{map_push, length-map}
use Rattle.setup_choice.specs.Setups.{OneSetupData, stage_want_data, one_setup_data}
use Rattle.setup_choice.proofs.Tables.{goes_on, stops, is_done}
use Rattle.setup_choice.proofs.reader.setups_of_items.Goals as goal

pub loop-item-preserved : goal.loop-item-preserved
loop-item-preserved c =
    let front : List OneSetupData = map one_setup_data c.loop-item.setups.items in
    let grown : map one_setup_data c.push.new.self.items ≡ front ++ one_setup_data c.in_ok-one.one ∷ [] = rw c.push.ensures.items (map_push _ c.loop-item.setups.items c.in_ok-one.one) in
    let next : c.loop-item.number + (1 + c.len.result) ≡ c.loop-item.number + (1 + length (map stage_want_data c.in_ok-one.one.stages.items)) = rw (length-map, c.len.ensures.value) refl in
    record {
      count = omega arith;
      tables = omega (arith, c.len.ensures.fits, c.loop-item.invariant.tables);
      reads = rw grown (goes_on c.args.items.now c.item-item.result c.loop-item.item-index c.loop-item.number _ front (one_setup_data c.in_ok-one.one) _ c.loop-item-test.true c.item-item.is c.in_ok-one.ensures next c.loop-item.invariant.reads);
    }

pub returns-in_err-one : goal.returns-in_err-one
returns-in_err-one c =
    let p = err_from_is_err_and c.from_residual.result c.from_residual.ensures.1 in
    rw (p.1, p.2) (stops c.args.items.now c.item-item.result c.loop-item.item-index c.loop-item.number (map one_setup_data c.loop-item.setups.items) c.in_err-one.field-0.0 _ c.loop-item-test.true c.item-item.is c.in_err-one.ensures c.loop-item.invariant.reads)

pub returns : goal.returns
returns c = is_done c.args.items.now c.loop-item.item-index c.loop-item.number (map one_setup_data c.loop-item.setups.items) _ c.loop-item-test.false c.loop-item.invariant.reads
