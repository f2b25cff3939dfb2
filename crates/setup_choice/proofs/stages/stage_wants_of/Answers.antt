use Rattle.std.proofs.Common.{List, ◌≡◌, ◌++◌, ◌∷◌, [], Ok, Err, map, arith}
use Rattle.std.proofs.lemmas.Result.{err_from_is_err_and}
use Rattle.std.proofs.lemmas.List.{map_push}
use Rattle.toml.specs.View.{view}
use Rattle.toml_fields.proofs.Each.{goes_on, stops, is_done}
use Rattle.setup_choice.specs.Setups.{StageWantData, stage_want_data}
use Rattle.setup_choice.specs.SetupsFile.{stage_want_in}
use Rattle.setup_choice.proofs.stages.stage_wants_of.Goals as goal

pub loop-item-preserved : goal.loop-item-preserved
loop-item-preserved c =
    let same : c.len.result ≡ c.loop-item.item-index = omega arith in
    let front : List StageWantData = map stage_want_data c.loop-item.stages.items in
    let read : stage_want_in c.args.number c.loop-item.item-index (view c.item-item.result) ≡ Ok (stage_want_data c.in_ok-stage.stage) = rw (← same) (c.in_ok-stage.ensures) in
    let grown : map stage_want_data c.push.new.self.items ≡ front ++ (stage_want_data c.in_ok-stage.stage) ∷ [] = rw c.push.ensures.items (map_push _ c.loop-item.stages.items c.in_ok-stage.stage) in
    record {
      count = omega arith;
      reads = rw grown (goes_on view (stage_want_in c.args.number) c.args.items.now c.item-item.result c.loop-item.item-index c.loop-item.item-index front (stage_want_data c.in_ok-stage.stage) _ c.loop-item-test.true c.item-item.is read c.loop-item.invariant.reads);
    }

pub returns-in_err-stage : goal.returns-in_err-stage
returns-in_err-stage c =
    let p = err_from_is_err_and c.from_residual.result c.from_residual.ensures.1 in
    let same : c.len.result ≡ c.loop-item.item-index = omega arith in
    let failed : stage_want_in c.args.number c.loop-item.item-index (view c.item-item.result) ≡ Err c.in_err-stage.field-0.0 = rw (← same) (c.in_err-stage.ensures) in
    rw (p.1, p.2) (stops view (stage_want_in c.args.number) c.args.items.now c.item-item.result c.loop-item.item-index c.loop-item.item-index (map stage_want_data c.loop-item.stages.items) c.in_err-stage.field-0.0 _ c.loop-item-test.true c.item-item.is failed c.loop-item.invariant.reads)

pub returns : goal.returns
returns c = is_done view (stage_want_in c.args.number) c.args.items.now c.loop-item.item-index c.loop-item.item-index (map stage_want_data c.loop-item.stages.items) _ c.loop-item-test.false c.loop-item.invariant.reads
