use Rattle.std.proofs.Common.{◌≡◌, ◌∙◌, ◌+◌, ◌++◌, ◌∷◌, [], List, ap, sym, subst, map, take, arith}
use Rattle.std.specs.Prelude.{All}
use Rattle.std.proofs.lemmas.List.{map_push, map_more, take_all}
use Rattle.std.proofs.lemmas.List.Elements.{All-push}
use Rattle.machine_file.specs.Machine.{StageTextData, IsStageText, stage_text_data}
use Rattle.job_setup.proofs.Lists.{all_at}
use Rattle.setup_choice.specs.declared.setups.StageWant.{StageWant}
use Rattle.setup_choice.specs.Setups.{IsStageWant, stage_want_data}
use Rattle.setup_choice.specs.Wanted.{wanted_by}
use Rattle.setup_choice.proofs.made.in_long_pieces.Goals as goal

pub made_of_long_pieces-requires : goal.made_of_long_pieces-requires
made_of_long_pieces-requires c = all_at IsStageWant stage_want_data c.args.stages.now c.loop-stage.stage-index c.stage-item.result c.requires.fit c.loop-stage-test.true c.stage-item.is

pub loop-stage-preserved : goal.loop-stage-preserved
loop-stage-preserved c =
    let stages = c.args.stages.now in
    let i = c.loop-stage.stage-index in
    let made = map stage_text_data c.loop-stage.made.items in
    let one = stage_text_data c.made_of_long_pieces.result in
    let front = map stage_want_data (take i stages) in
    let grown : map stage_text_data c.push.new.self.items ≡ made ++ one ∷ [] = rw c.push.ensures.items (map_push stage_text_data c.loop-stage.made.items c.made_of_long_pieces.result) in
    let pushed : map wanted_by (map stage_text_data c.push.new.self.items) ≡ map wanted_by made ++ wanted_by one ∷ [] = ap (λ (ts : List StageTextData). map wanted_by ts) grown ∙ map_push wanted_by made one in
    let more : map stage_want_data (take (i + 1) stages) ≡ front ++ stage_want_data c.stage-item.result ∷ [] = map_more stage_want_data stages i c.stage-item.result c.loop-stage-test.true ∙ ap (λ (s : StageWant). front ++ stage_want_data s ∷ []) (sym c.stage-item.is) in
    record {
      wanted = pushed ∙ (λ k. c.loop-stage.invariant.wanted k ++ c.made_of_long_pieces.ensures.wanted k ∷ []) ∙ sym more;
      fit = subst (λ (ts : List StageTextData). All IsStageText ts) (sym grown) (All-push IsStageText made one c.loop-stage.invariant.fit c.made_of_long_pieces.ensures.fit);
      count = omega arith;
    }

pub returns-clause-wanted : goal.returns-clause-wanted
returns-clause-wanted c = c.loop-stage.invariant.wanted ∙ ap (λ (ss : List StageWant). map stage_want_data ss) (take_all c.loop-stage.stage-index c.args.stages.now c.loop-stage-test.false)
