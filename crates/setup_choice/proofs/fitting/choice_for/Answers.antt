use Rattle.std.proofs.Common.{◌≡◌, ◌∙◌, ap, sym, subst, map, length, List, arith}
use Rattle.std.specs.Prelude.{All, option_map}
use Rattle.std.proofs.lemmas.List.{length-map}
use Rattle.tool_library.specs.Tools.{tools_data}
use Rattle.piece_pick.specs.declared.want.Want.{Want}
use Rattle.piece_pick.specs.Choice.{IsWant, IsPick}
use Rattle.setup_choice.specs.declared.setups.StageWant.{StageWant}
use Rattle.setup_choice.specs.Setups.{stage_want_data, one_setup_data}
use Rattle.setup_choice.specs.Fitting.{want_of, wants_of}
use Rattle.setup_choice.proofs.fitting.choice_for.Goals as goal

pub pick-requires-clause-wants : goal.pick-requires-clause-wants
pick-requires-clause-wants c =
    let tools = tools_data c.args.tools.now in
    let seen : c.as_slice-2.result.now ≡ wants_of tools (one_setup_data c.args.one.now).stages = c.as_slice-2.ensures.value ∙ c.wants_of-wants.ensures ∙ ap (λ (ss : List StageWant). wants_of tools (map stage_want_data ss)) c.as_slice.ensures.value in
    subst (λ (ws : List Want). All (IsWant tools) ws) (sym seen) c.requires.wants

pub pick-requires-clause-few : goal.pick-requires-clause-few
pick-requires-clause-few c =
    let tools = tools_data c.args.tools.now in
    let one = one_setup_data c.args.one.now in
    let seen : c.as_slice-2.result.now ≡ wants_of tools one.stages = c.as_slice-2.ensures.value ∙ c.wants_of-wants.ensures ∙ ap (λ (ss : List StageWant). wants_of tools (map stage_want_data ss)) c.as_slice.ensures.value in
    let long : length c.as_slice-2.result.now ≡ length one.stages = ap length seen ∙ length-map one.stages (want_of tools) in
    omega (arith, long, c.requires.setup.few_stages)

pub returns : goal.returns
returns c =
    let tools = tools_data c.args.tools.now in
    let seen : c.as_slice-2.result.now ≡ wants_of tools (one_setup_data c.args.one.now).stages = c.as_slice-2.ensures.value ∙ c.wants_of-wants.ensures ∙ ap (λ (ss : List StageWant). wants_of tools (map stage_want_data ss)) c.as_slice.ensures.value in
    subst (λ (ws : List Want). IsPick tools ws (option_map (λ choice. map (λ pieces. pieces.items) choice.items) c.pick.result)) seen c.pick.ensures
