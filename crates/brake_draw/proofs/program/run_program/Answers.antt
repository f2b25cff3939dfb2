use Rattle.std.proofs.Common.{◌≡◌, map, string_bytes, inr, refl, ap, arith, ◌∙◌}
use Rattle.command_runner.specs.Ends.{stops}
use Rattle.command_runner.proofs.Outcomes.{outcome_of}
use Rattle.command_runner.specs.Program.{words_of}
use Rattle.brake_draw.proofs.program.run_program.Goals as goal

pub returns-in-Ok-clause-ends : goal.returns-in-Ok-clause-ends
returns-in-Ok-clause-ends g c =
    let words : map string_bytes c.as_slice.result.now ≡ words_of c.args.args = ap (map string_bytes) c.as_slice.ensures.value ∙ c.in-Ok.ensures in
    rw words at c.run_draw.ensures.ends

pub returns-in-Ok-clause-cause : goal.returns-in-Ok-clause-cause
returns-in-Ok-clause-cause g c =
    let words : map string_bytes c.as_slice.result.now ≡ words_of c.args.args = ap (map string_bytes) c.as_slice.ensures.value ∙ c.in-Ok.ensures in
    rw words at c.run_draw.ensures.cause

pub returns-in-Err-clause-ends : goal.returns-in-Err-clause-ends
returns-in-Err-clause-ends g c = stops (inr refl) (record { content = refl; calls = omega arith }) refl

pub returns-in-Ok-clause-outcome : goal.returns-in-Ok-clause-outcome
returns-in-Ok-clause-outcome g c = outcome_of _ _ _ _ _ _ _ (returns-in-Ok-clause-ends g c)

pub returns-in-Err-clause-outcome : goal.returns-in-Err-clause-outcome
returns-in-Err-clause-outcome g c = outcome_of _ _ _ _ _ _ _ (returns-in-Err-clause-ends g c)
