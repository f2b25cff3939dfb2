use Rattle.std.proofs.Common.{◌≡◌, ◌≤◌, ◌∙◌, ap, sym, subst, map, length, arith}
use Rattle.std.proofs.lemmas.List.{length-map}
use Rattle.tool_library.specs.Tools.{tools_data}
use Rattle.machine_file.specs.Bounds.{most_stages}
use Rattle.machine_file.specs.Machine.{MachineData, machine_data, stage_text_data, IsMachine, with_stages}
use Rattle.job_setup.specs.JobOf.{job_in}
use Rattle.setup_choice.specs.Setups.{stage_want_data, one_setup_data}
use Rattle.setup_choice.specs.Fitting.{made_of_choice}
use Rattle.setup_choice.proofs.MadeStages.{made_length}
use Rattle.setup_choice.proofs.Choices.{made_fit}
use Rattle.setup_choice.proofs.Fitted.{machine_is, each_has_list}
use Rattle.setup_choice.proofs.fitting.job_of_choice.Goals as goal

pub made_of_choice-stages-requires-clause-each : goal.made_of_choice-stages-requires-clause-each
made_of_choice-stages-requires-clause-each c =
    let tools = tools_data c.args.tools.now in
    let stages = (one_setup_data c.args.one.now).stages in
    let each = each_has_list tools stages (map (λ pieces. pieces.items) c.args.choice.now.items) c.requires.choice.choice.each in
    let lists = length-map c.args.choice.now.items (λ pieces. pieces.items) in
    let wants = length-map c.args.one.now.stages.items stage_want_data in
    ap length c.as_slice-2.ensures.value ∙ sym lists ∙ each ∙ wants ∙ sym (ap length c.as_slice.ensures.value)

pub make_job-requires-clause-machine : goal.make_job-requires-clause-machine
make_job-requires-clause-machine c =
    let tools = tools_data c.args.tools.now in
    let machine = machine_data c.args.machine.now in
    let stages = (one_setup_data c.args.one.now).stages in
    let choice = map (λ pieces. pieces.items) c.args.choice.now.items in
    let made = made_of_choice stages choice in
    let is_choice = c.requires.choice.choice in
    let texts : map stage_text_data c.made_of_choice-stages.result.items ≡ made = c.made_of_choice-stages.ensures ∙ (λ k. made_of_choice (map stage_want_data (c.as_slice.ensures.value k)) (map (λ pieces. pieces.items) (c.as_slice-2.ensures.value k))) in
    let is : machine_data c.with_stages.result ≡ with_stages machine made = c.with_stages.ensures ∙ ap (with_stages machine) texts in
    let long = made_length stages choice (each_has_list tools stages choice is_choice.each) in
    let few : length made ≤ most_stages = omega (arith, long, c.requires.setup.few_stages) in
    subst (λ (m : MachineData). IsMachine m) (sym is) (machine_is machine made c.requires.machine (made_fit tools stages choice c.requires.tools c.requires.setup.stages is_choice.each is_choice.stock) few)

pub returns : goal.returns
returns c =
    let tools = tools_data c.args.tools.now in
    let machine = machine_data c.args.machine.now in
    let made = made_of_choice (one_setup_data c.args.one.now).stages (map (λ pieces. pieces.items) c.args.choice.now.items) in
    let texts : map stage_text_data c.made_of_choice-stages.result.items ≡ made = c.made_of_choice-stages.ensures ∙ (λ k. made_of_choice (map stage_want_data (c.as_slice.ensures.value k)) (map (λ pieces. pieces.items) (c.as_slice-2.ensures.value k))) in
    let is : machine_data c.with_stages.result ≡ with_stages machine made = c.with_stages.ensures ∙ ap (with_stages machine) texts in
    c.make_job.ensures ∙ (λ k. job_in (c.copy.ensures k) tools (is k))
