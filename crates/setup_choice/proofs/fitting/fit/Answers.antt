use Rattle.std.proofs.Common.{◌≡◌, ◌∙◌, sym, map, List, ℤ, Ok, Err}
use Rattle.part_file.specs.Part.{part_data}
use Rattle.tool_library.specs.Tools.{tools_data}
use Rattle.machine_file.specs.Machine.{machine_data}
use Rattle.setup_choice.specs.Setups.{one_setup_data}
use Rattle.setup_choice.proofs.Fitted.{wants_fit, choice_gives}
use Rattle.setup_choice.proofs.fitting.fit.Goals as goal

pub choice_for-requires-clause-wants : goal.choice_for-requires-clause-wants
choice_for-requires-clause-wants c = wants_fit (part_data c.args.part.now) (tools_data c.args.tools.now) (machine_data c.args.machine.now) (one_setup_data c.args.one.now) c.requires.setup (sym c.in_ok-check.ensures)

pub returns-in_err-job-in-Some : goal.returns-in_err-job-in-Some
returns-in_err-job-in-Some c =
    let choice : List (List ℤ) = map (λ pieces. pieces.items) c.in-Some.choice.items in
    let gives = choice_gives (part_data c.args.part.now) (tools_data c.args.tools.now) (machine_data c.args.machine.now) (one_setup_data c.args.one.now) choice (sym c.in_ok-check.ensures) c.in-Some.ensures.choice in
    let clash : Err c.in_err-job-in-Some.field-0.0 ≡ Ok gives.0 = c.in_err-job-in-Some.ensures ∙ gives.1 in
    absurd (cc)
