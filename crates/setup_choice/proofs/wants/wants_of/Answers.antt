use Rattle.std.proofs.Common.{◌≡◌, ◌∙◌, ◌+◌, ◌++◌, ◌∷◌, [], List, ap, sym, map, take, arith}
use Rattle.std.proofs.lemmas.List.{map_push, map_more, take_all}
use Rattle.tool_library.specs.Tools.{tools_data}
use Rattle.setup_choice.specs.declared.setups.StageWant.{StageWant}
use Rattle.setup_choice.specs.Setups.{StageWantData, stage_want_data}
use Rattle.setup_choice.specs.Fitting.{want_of}
use Rattle.setup_choice.proofs.wants.wants_of.Goals as goal

pub loop-stage-preserved : goal.loop-stage-preserved
loop-stage-preserved c =
    let want = want_of (tools_data c.args.tools.now) in
    let stages = c.args.stages.now in
    let i = c.loop-stage.stage-index in
    let seen = map stage_want_data (take i stages) in
    let one = stage_want_data c.stage-item.result in
    let more : map stage_want_data (take (i + 1) stages) ≡ seen ++ one ∷ [] = map_more stage_want_data stages i c.stage-item.result c.loop-stage-test.true ∙ ap (λ (s : StageWant). seen ++ stage_want_data s ∷ []) (sym c.stage-item.is) in
    let all : map want (map stage_want_data (take (i + 1) stages)) ≡ map want seen ++ want one ∷ [] = ap (λ (ss : List StageWantData). map want ss) more ∙ map_push want seen one in
    record {
      value = c.push.ensures.items ∙ (λ k. c.loop-stage.invariant.value k ++ c.want_of.ensures k ∷ []) ∙ sym all;
      count = omega arith;
    }

pub returns : goal.returns
returns c = c.loop-stage.invariant.value ∙ ap (λ (ss : List StageWant). map (want_of (tools_data c.args.tools.now)) (map stage_want_data ss)) (take_all c.loop-stage.stage-index c.args.stages.now c.loop-stage-test.false)
