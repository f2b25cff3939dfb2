-- What `trial` answers.
use Rattle.std.specs.Prelude.{◌≡◌, ℕ, List, ◌++◌, codes}
use Rattle.brake_base.specs.declared.stroke.Worth.{Worth}
use Rattle.job_setup.specs.Setup.{bend_count}
use Rattle.cert_lines.specs.Lines.{number, spaced, worth_word}
use Rattle.part_gen.specs.Generator.{generated_job}
use Rattle.command_runner.specs.Answers.{AnswerData, one_text}
use Rattle.handling_cost.specs.Claim.{IsTrueClaim}
use Rattle.brake_commands.specs.PlanAnswer.{claim_status}

-- `trial N bends B cost C checked`, with `none` where there is no plan
unfoldable pub trial_line : ℕ → ℕ → Worth → List ℕ
trial_line n bends claim =
    codes "trial" ++ spaced (number n) ++ codes " bends" ++ spaced (number bends) ++ codes " cost"
    ++ spaced (worth_word claim) ++ codes " checked\n"

-- the answer to a number: the least cost of its made job
abbrev pub IsTrialAnswer : ℕ → AnswerData → Type 0
IsTrialAnswer n answer =
    let job = generated_job n in
    (claim : Worth) × IsTrueClaim job claim
    × (answer ≡ one_text (claim_status claim) (trial_line n (bend_count job) claim))
