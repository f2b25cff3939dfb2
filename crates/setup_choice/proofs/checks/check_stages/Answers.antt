use Rattle.std.proofs.Common.{◌≡◌, ◌∙◌, ap, sym, map, List, Err}
use Rattle.std.proofs.lemmas.Result.{err_from_is_err_and}
use Rattle.toml_fields.specs.Results.{each_from}
use Rattle.part_file.specs.Part.{part_data}
use Rattle.tool_library.specs.declared.tools.LoadRow.{LoadRow}
use Rattle.tool_library.specs.Tools.{load_data, tools_data}
use Rattle.machine_file.specs.declared.machine.StageText.{StageText}
use Rattle.machine_file.specs.Machine.{machine_data, stage_text_data}
use Rattle.job_setup.specs.declared.setup.Stage.{Stage}
use Rattle.job_setup.specs.Setup.{stage_data}
use Rattle.job_setup.specs.Stages.{stage_of_text}
use Rattle.job_setup.specs.Places.{places_fit}
use Rattle.job_setup.specs.Loads.{loads_fit}
use Rattle.setup_choice.specs.declared.setups.StageWant.{StageWant}
use Rattle.setup_choice.specs.Setups.{stage_want_data, one_setup_data}
use Rattle.setup_choice.specs.Wanted.{wanted_by}
use Rattle.setup_choice.proofs.Bare.{unread, unplaced, at_loads}
use Rattle.setup_choice.proofs.checks.check_stages.Goals as goal

pub returns-in_err-stages : goal.returns-in_err-stages
returns-in_err-stages c =
    let part = part_data c.args.part.now in
    let tools = tools_data c.args.tools.now in
    let one = one_setup_data c.args.one.now in
    let made = map stage_text_data c.in_long_pieces-made.result.items in
    let wanted : map wanted_by made ≡ one.stages = c.in_long_pieces-made.ensures.wanted ∙ ap (λ (ss : List StageWant). map stage_want_data ss) c.as_slice.ensures.value in
    let texts = ap (λ (ts : List StageText). each_from (stage_of_text part tools) 0 (map stage_text_data ts)) c.as_slice-2.ensures.value in
    let answer = err_from_is_err_and c.from_residual.result c.from_residual.ensures.1 in
    answer.1 ∙ ap Err answer.2 ∙ sym (unread part tools (machine_data c.args.machine.now) one made c.in_err-stages.field-0.0 wanted (sym texts ∙ c.in_err-stages.ensures.value))

pub returns-in_err-check_places : goal.returns-in_err-check_places
returns-in_err-check_places c =
    let part = part_data c.args.part.now in
    let tools = tools_data c.args.tools.now in
    let machine = machine_data c.args.machine.now in
    let one = one_setup_data c.args.one.now in
    let made = map stage_text_data c.in_long_pieces-made.result.items in
    let wanted : map wanted_by made ≡ one.stages = c.in_long_pieces-made.ensures.wanted ∙ ap (λ (ss : List StageWant). map stage_want_data ss) c.as_slice.ensures.value in
    let texts = ap (λ (ts : List StageText). each_from (stage_of_text part tools) 0 (map stage_text_data ts)) c.as_slice-2.ensures.value in
    let stages = ap (λ (ss : List Stage). places_fit machine.bed (map stage_data ss)) c.as_slice-3.ensures.value in
    let answer = err_from_is_err_and c.from_residual-in_err-check_places.result c.from_residual-in_err-check_places.ensures.1 in
    answer.1 ∙ ap Err answer.2 ∙ sym (unplaced part tools machine one made (map stage_data c.in_ok-stages.stages.items) c.in_err-check_places.field-0.0 wanted (sym texts ∙ c.in_ok-stages.ensures.value) (sym (c.in_err-check_places.ensures ∙ stages)))

pub returns : goal.returns
returns c =
    let part = part_data c.args.part.now in
    let tools = tools_data c.args.tools.now in
    let machine = machine_data c.args.machine.now in
    let one = one_setup_data c.args.one.now in
    let made = map stage_text_data c.in_long_pieces-made.result.items in
    let held = map stage_data c.in_ok-stages.stages.items in
    let wanted : map wanted_by made ≡ one.stages = c.in_long_pieces-made.ensures.wanted ∙ ap (λ (ss : List StageWant). map stage_want_data ss) c.as_slice.ensures.value in
    let texts = ap (λ (ts : List StageText). each_from (stage_of_text part tools) 0 (map stage_text_data ts)) c.as_slice-2.ensures.value in
    let placed = ap (λ (ss : List Stage). places_fit machine.bed (map stage_data ss)) c.as_slice-3.ensures.value in
    let loads = ap (λ (rows : List LoadRow). loads_fit part (map load_data rows) (map stage_data c.as_slice-4.result.now)) c.deref.ensures.value in
    let stages = ap (λ (ss : List Stage). loads_fit part tools.loads (map stage_data ss)) c.as_slice-4.ensures.value in
    c.check_loads.ensures ∙ loads ∙ stages ∙ sym (at_loads part tools machine one made held wanted (sym texts ∙ c.in_ok-stages.ensures.value) (sym (c.in_ok-check_places.ensures ∙ placed)))
