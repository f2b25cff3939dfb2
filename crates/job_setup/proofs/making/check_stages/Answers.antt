use Rattle.std.proofs.Common.{◌∙◌, ap, sym, map, List, Err}
use Rattle.std.proofs.lemmas.Result.{err_from_is_err_and}
use Rattle.part_file.specs.Part.{part_data}
use Rattle.tool_library.specs.declared.tools.LoadRow.{LoadRow}
use Rattle.tool_library.specs.Tools.{load_data, tools_data}
use Rattle.machine_file.specs.declared.machine.StageText.{StageText}
use Rattle.machine_file.specs.Machine.{machine_data, stage_text_data}
use Rattle.job_setup.specs.Setup.{stage_data}
use Rattle.job_setup.specs.Stock.{stock_suffices}
use Rattle.job_setup.specs.Loads.{loads_fit}
use Rattle.job_setup.proofs.Steps.{stops_at_places, stops_at_stock, ends_at_loads, on_ok}
use Rattle.job_setup.proofs.making.check_stages.Goals as goal

pub returns-in_err-check_places-clause-value : goal.returns-in_err-check_places-clause-value
returns-in_err-check_places-clause-value c =
    let answer = err_from_is_err_and c.from_residual.result c.from_residual.ensures.1 in
    answer.1 ∙ ap Err answer.2 ∙ sym (stops_at_places (part_data c.args.part.now) (tools_data c.args.tools.now) (machine_data c.args.machine.now) (map stage_data c.args.stages.now) c.in_err-check_places.field-0.0 (sym c.in_err-check_places.ensures))

pub returns-in_err-check_stock-clause-value : goal.returns-in_err-check_stock-clause-value
returns-in_err-check_stock-clause-value c =
    let tools = tools_data c.args.tools.now in
    let texts = ap (λ (ts : List StageText). stock_suffices tools (map stage_text_data ts)) c.as_slice.ensures.value in
    let answer = err_from_is_err_and c.from_residual-in_err-check_stock.result c.from_residual-in_err-check_stock.ensures.1 in
    answer.1 ∙ ap Err answer.2 ∙ sym (stops_at_stock (part_data c.args.part.now) tools (machine_data c.args.machine.now) (map stage_data c.args.stages.now) c.in_err-check_stock.field-0.0 (sym c.in_ok-check_places.ensures) (sym (c.in_err-check_stock.ensures ∙ texts)))

pub returns-clause-value : goal.returns-clause-value
returns-clause-value c =
    let part = part_data c.args.part.now in
    let tools = tools_data c.args.tools.now in
    let stages = map stage_data c.args.stages.now in
    let texts = ap (λ (ts : List StageText). stock_suffices tools (map stage_text_data ts)) c.as_slice.ensures.value in
    let loads = ap (λ (rows : List LoadRow). loads_fit part (map load_data rows) stages) c.deref.ensures.value in
    c.check_loads.ensures ∙ loads ∙ sym (ends_at_loads part tools (machine_data c.args.machine.now) stages (sym c.in_ok-check_places.ensures) (sym (c.in_ok-check_stock.ensures ∙ texts)))

pub returns-clause-placed : goal.returns-clause-placed
returns-clause-placed c = on_ok c.check_loads.result _ (sym c.in_ok-check_places.ensures)
