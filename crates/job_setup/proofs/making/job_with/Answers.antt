use Rattle.std.proofs.Common.{◌≡◌, ◌≤◌, ◌∙◌, ap, sym, subst, map, List, length, Ok, Err}
use Rattle.std.specs.Prelude.{All, IsOk}
use Rattle.std.proofs.lemmas.Int.{to_z-of_z}
use Rattle.std.proofs.lemmas.List.{length-map}
use Rattle.std.proofs.lemmas.Result.{err_from_is_err_and}
use Rattle.toml_fields.specs.Results.{each_from}
use Rattle.part_file.specs.Part.{part_data}
use Rattle.unfolder.specs.Blank.{blank_of_part}
use Rattle.tool_library.specs.Tools.{tools_data}
use Rattle.machine_file.specs.declared.machine.StageText.{StageText}
use Rattle.machine_file.specs.Machine.{machine_data, IsStageText, stage_text_data}
use Rattle.job_setup.specs.declared.setup.Stage.{Stage}
use Rattle.job_setup.specs.Setup.{stage_data}
use Rattle.job_setup.specs.Stages.{stage_of_text}
use Rattle.job_setup.specs.Places.{places_fit}
use Rattle.job_setup.specs.JobOf.{unfolds, stages_fit}
use Rattle.job_setup.proofs.Steps.{stops_at_blank, stops_at_stages, stops_at_fit, gives_job}
use Rattle.job_setup.proofs.Validity.{stages_are, job_is}
use Rattle.job_setup.proofs.making.job_with.Goals as goal

pub stages_of-requires-clause-texts : goal.stages_of-requires-clause-texts
stages_of-requires-clause-texts c = subst (λ (ts : List StageText). All IsStageText (map stage_text_data ts)) (sym c.as_slice.ensures.value) c.requires.machine.stages

pub returns-in_err-check_blank : goal.returns-in_err-check_blank
returns-in_err-check_blank c =
    let q_fits = c.ranges.q in
    let part = part_data c.args.part.now in
    let blank : unfolds part c.args.q ≡ Err c.in_err-check_blank.field-0.0 = simp to_z-of_z at c.in_err-check_blank.ensures.value in
    let answer = err_from_is_err_and c.from_residual.result c.from_residual.ensures.1 in
    answer.1 ∙ ap Err answer.2 ∙ sym (stops_at_blank part c.args.q (tools_data c.args.tools.now) (machine_data c.args.machine.now) c.in_err-check_blank.field-0.0 blank)

pub returns-in_err-stages : goal.returns-in_err-stages
returns-in_err-stages c =
    let q_fits = c.ranges.q in
    let part = part_data c.args.part.now in
    let tools = tools_data c.args.tools.now in
    let blank : unfolds part c.args.q ≡ Ok tt = simp to_z-of_z at c.in_ok-check_blank.ensures.value in
    let texts = ap (λ (ts : List StageText). each_from (stage_of_text part tools) 0 (map stage_text_data ts)) c.as_slice.ensures.value in
    let answer = err_from_is_err_and c.from_residual-in_err-stages.result c.from_residual-in_err-stages.ensures.1 in
    answer.1 ∙ ap Err answer.2 ∙ sym (stops_at_stages part c.args.q tools (machine_data c.args.machine.now) c.in_err-stages.field-0.0 blank (sym texts ∙ c.in_err-stages.ensures.value))

pub returns-in_err-check_stages : goal.returns-in_err-check_stages
returns-in_err-check_stages c =
    let q_fits = c.ranges.q in
    let part = part_data c.args.part.now in
    let tools = tools_data c.args.tools.now in
    let machine = machine_data c.args.machine.now in
    let blank : unfolds part c.args.q ≡ Ok tt = simp to_z-of_z at c.in_ok-check_blank.ensures.value in
    let texts = ap (λ (ts : List StageText). each_from (stage_of_text part tools) 0 (map stage_text_data ts)) c.as_slice.ensures.value in
    let stages = ap (λ (ss : List Stage). stages_fit part tools machine (map stage_data ss)) c.as_slice-2.ensures.value in
    let answer = err_from_is_err_and c.from_residual-in_err-check_stages.result c.from_residual-in_err-check_stages.ensures.1 in
    answer.1 ∙ ap Err answer.2 ∙ sym (stops_at_fit part c.args.q tools machine (map stage_data c.in_ok-stages.stages.items) c.in_err-check_stages.field-0.0 blank (sym texts ∙ c.in_ok-stages.ensures.value) (sym (c.in_err-check_stages.ensures.value ∙ stages)))

pub checked-requires : goal.checked-requires
checked-requires c =
    let q_fits = c.ranges.q in
    let part = part_data c.args.part.now in
    let tools = tools_data c.args.tools.now in
    let machine = machine_data c.args.machine.now in
    let unfolds_fit : IsOk (blank_of_part part c.args.q) = simp to_z-of_z at c.in_ok-check_blank.ensures.fit in
    let texts = ap (λ (ts : List StageText). each_from (stage_of_text part tools) 0 (map stage_text_data ts)) c.as_slice.ensures.value in
    let stages_fit = stages_are part tools c.requires.tools 0 machine.stages c.requires.machine.stages (map stage_data c.in_ok-stages.stages.items) (sym texts ∙ c.in_ok-stages.ensures.value) in
    let few : length (map stage_data c.in_ok-stages.stages.items) ≤ 6 = rw length-map c.in_ok-stages.ensures.few in
    let placed = subst (λ (ss : List Stage). places_fit machine.bed (map stage_data ss) ≡ Ok tt) c.as_slice-2.ensures.value c.in_ok-check_stages.ensures.placed in
    simp to_z-of_z (job_is part c.args.q machine (map stage_data c.in_ok-stages.stages.items) c.requires.part c.requires.q_low c.requires.q_high unfolds_fit c.requires.machine stages_fit few placed)

pub returns : goal.returns
returns c =
    let q_fits = c.ranges.q in
    let part = part_data c.args.part.now in
    let tools = tools_data c.args.tools.now in
    let machine = machine_data c.args.machine.now in
    let blank : unfolds part c.args.q ≡ Ok tt = simp to_z-of_z at c.in_ok-check_blank.ensures.value in
    let texts = ap (λ (ts : List StageText). each_from (stage_of_text part tools) 0 (map stage_text_data ts)) c.as_slice.ensures.value in
    let stages = ap (λ (ss : List Stage). stages_fit part tools machine (map stage_data ss)) c.as_slice-2.ensures.value in
    ap Ok (simp to_z-of_z at c.checked.ensures) ∙ sym (gives_job part c.args.q tools machine (map stage_data c.in_ok-stages.stages.items) blank (sym texts ∙ c.in_ok-stages.ensures.value) (sym (c.in_ok-check_stages.ensures.value ∙ stages)))
