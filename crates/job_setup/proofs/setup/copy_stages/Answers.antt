use Rattle.std.proofs.Common.{◌≡◌, ◌∙◌, ◌+◌, ◌++◌, ◌∷◌, [], List, ap, sym, map, take, arith}
use Rattle.std.proofs.lemmas.List.{map_push, map_more}
use Rattle.job_setup.specs.declared.setup.Stage.{Stage}
use Rattle.job_setup.specs.Setup.{StageData, stage_data}
use Rattle.job_setup.proofs.setup.copy_stages.Goals as goal

pub loop-stage-preserved : goal.loop-stage-preserved
loop-stage-preserved c =
    let stages = c.args.stages.now in
    let i = c.loop-stage.stage-index in
    let front = map stage_data (take i stages) in
    let pushed : map stage_data c.push.new.self.items ≡ map stage_data c.loop-stage.copies.items ++ stage_data c.copy.result ∷ [] = rw c.push.ensures.items (map_push stage_data c.loop-stage.copies.items c.copy.result) in
    let more : map stage_data (take (i + 1) stages) ≡ front ++ stage_data c.stage-item.result ∷ [] = map_more stage_data stages i c.stage-item.result c.loop-stage-test.true ∙ ap (λ (s : Stage). front ++ stage_data s ∷ []) (sym c.stage-item.is) in
    record {
      value = pushed ∙ (λ k. c.loop-stage.invariant.value k ++ c.copy.ensures k ∷ []) ∙ sym more;
      count = omega arith;
    }
