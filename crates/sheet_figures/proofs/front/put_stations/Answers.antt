use Rattle.std.proofs.Common.{◌∙◌, ◌++◌, ◌<◌, ℕ, List, length, take, ap, sym, arith}
use Rattle.std.specs.List.{flat_map}
use Rattle.std.proofs.lemmas.List.{flat_map_more, take_more, take_all}
use Rattle.job_setup.specs.Setup.{StageData}
use Rattle.job_setup.specs.StageOf.{stage_of, no_stage}
use Rattle.sheet_figures.specs.Fronts.{front_station}
use Rattle.sheet_figures.proofs.front.put_stations.Goals as goal

pub loop-stage-preserved : goal.loop-stage-preserved
loop-stage-preserved c =
    let window = c.args.window.now in
    let before = c.args.out.now.items in
    let stages = c.args.job.now.setup.stages in
    let i = c.loop-stage.stage in
    let stage = stage_of c.args.job.now i in
    let inside : i < length stages = omega (arith, c.loop-stage-test.true, c.stages-stage-end.ensures.value) in
    c.in_ok-put_station.ensures ∙ ap (λ (s : StageData). c.loop-stage.out.items ++ front_station window s) c.stage_at.ensures.value
    ∙ ap (λ (t : List ℕ). t ++ front_station window stage) c.loop-stage.invariant
    ∙ flat_map_more (front_station window) before (take i stages) stage
    ∙ ap (λ (ss : List StageData). before ++ flat_map (front_station window) ss) (sym (take_more stages i no_stage inside))

pub returns : goal.returns
returns c =
    let stages = c.args.job.now.setup.stages in
    c.loop-stage.invariant ∙ ap (λ (ss : List StageData). c.args.out.now.items ++ flat_map (front_station c.args.window.now) ss) (take_all c.loop-stage.stage stages (omega (arith, c.loop-stage-test.false, c.stages-stage-end.ensures.value)))
