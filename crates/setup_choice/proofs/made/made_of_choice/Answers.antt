use Rattle.std.proofs.Common.{◌≡◌, ◌∙◌, ◌++◌, ◌∷◌, [], List, ℤ, ap, sym, map, length, add-one, arith}
use Rattle.std.proofs.lemmas.List.{map_push, take_all, length-map}
use Rattle.machine_file.specs.Machine.{stage_text_data}
use Rattle.setup_choice.specs.Setups.{stage_want_data}
use Rattle.setup_choice.specs.Fitting.{made_of, made_of_choice}
use Rattle.setup_choice.proofs.MadeStages.{made_more, made_length}
use Rattle.setup_choice.proofs.made.made_of_choice.Goals as goal

pub loop-i-preserved : goal.loop-i-preserved
loop-i-preserved c =
    let stages = c.args.stages.now in
    let choice = c.args.choice.now in
    let i = c.loop-i.i in
    let made = map stage_text_data c.loop-i.made.items in
    let one = made_of (stage_want_data c.index-stages-i.result, c.index-choice-i.result.items) in
    let grown : map stage_text_data c.push.new.self.items ≡ made ++ stage_text_data c.made_of.result ∷ [] = rw c.push.ensures.items (map_push stage_text_data c.loop-i.made.items c.made_of.result) in
    let is : stage_text_data c.made_of.result ≡ one = c.made_of.ensures ∙ ap (λ (ps : List ℤ). made_of (stage_want_data c.index-stages-i.result, ps)) c.as_slice.ensures.value in
    let more = made_more stage_want_data (λ pieces. pieces.items) stages choice i c.index-stages-i.result c.index-choice-i.result c.loop-i-test.true (omega (arith, c.requires.each, c.loop-i-test.true)) c.index-stages-i.is c.index-choice-i.is in
    record {
      value = grown ∙ (λ k. c.loop-i.invariant.value k ++ is k ∷ []) ∙ rw add-one (sym more);
      count = omega arith;
    }

pub returns : goal.returns
returns c =
    let whole = made_of_choice (map stage_want_data c.args.stages.now) (map (λ pieces. pieces.items) c.args.choice.now) in
    let long : length whole ≡ length c.args.stages.now = made_length (map stage_want_data c.args.stages.now) (map (λ pieces. pieces.items) c.args.choice.now) (length-map c.args.choice.now (λ pieces. pieces.items) ∙ c.requires.each ∙ sym (length-map c.args.stages.now stage_want_data)) ∙ length-map c.args.stages.now stage_want_data in
    c.loop-i.invariant.value ∙ take_all c.loop-i.i whole (omega (arith, long, c.loop-i-test.false))
