use Rattle.std.proofs.Common.{◌≡◌, map, string_bytes, inr, refl, ap, arith, ◌∙◌}
use Rattle.command_runner.specs.Ends.{stops}
use Rattle.command_runner.proofs.Outcomes.{outcome_of}
use Rattle.command_runner.specs.Program.{words_of}
use Rattle.brake_commands.proofs.Answering.{run_tells}
use Rattle.brake_commands.proofs.Headlines.{run_headline}
use Rattle.brake_commands.proofs.Complete.{run_complete}
use Rattle.brake_commands.proofs.Confirming.{run_confirms}
use Rattle.brake_commands.proofs.program.run_program.Goals as goal

pub returns-in-Ok-clause-ends : goal.returns-in-Ok-clause-ends
returns-in-Ok-clause-ends g c =
    let words : map string_bytes c.as_slice.result.now ≡ words_of c.args.args = ap (map string_bytes) c.as_slice.ensures.value ∙ c.in-Ok.ensures in
    rw words at c.brake.ensures.ends

pub returns-in-Ok-clause-cause : goal.returns-in-Ok-clause-cause
returns-in-Ok-clause-cause g c =
    let words : map string_bytes c.as_slice.result.now ≡ words_of c.args.args = ap (map string_bytes) c.as_slice.ensures.value ∙ c.in-Ok.ensures in
    rw words at c.brake.ensures.cause

pub returns-in-Err-clause-ends : goal.returns-in-Err-clause-ends
returns-in-Err-clause-ends g c = stops (inr refl) (record { content = refl; calls = omega arith }) refl

pub returns-in-Ok-clause-outcome : goal.returns-in-Ok-clause-outcome
returns-in-Ok-clause-outcome g c = outcome_of _ _ _ _ _ _ _ (returns-in-Ok-clause-ends g c)

pub returns-in-Ok-clause-told : goal.returns-in-Ok-clause-told
returns-in-Ok-clause-told g c = run_tells _ _ _ _ _ (returns-in-Ok-clause-outcome g c)

pub returns-in-Ok-clause-headline : goal.returns-in-Ok-clause-headline
returns-in-Ok-clause-headline g c = run_headline _ _ _ _ _ (returns-in-Ok-clause-outcome g c)

pub returns-in-Ok-clause-complete : goal.returns-in-Ok-clause-complete
returns-in-Ok-clause-complete g c = run_complete _ _ _ _ _ (returns-in-Ok-clause-outcome g c)

pub returns-in-Ok-clause-confirms : goal.returns-in-Ok-clause-confirms
returns-in-Ok-clause-confirms g c = run_confirms _ _ _ _ _ (returns-in-Ok-clause-outcome g c)

pub returns-in-Err-clause-outcome : goal.returns-in-Err-clause-outcome
returns-in-Err-clause-outcome g c = outcome_of _ _ _ _ _ _ _ (returns-in-Err-clause-ends g c)

pub returns-in-Err-clause-told : goal.returns-in-Err-clause-told
returns-in-Err-clause-told g c = run_tells _ _ _ _ _ (returns-in-Err-clause-outcome g c)

pub returns-in-Err-clause-headline : goal.returns-in-Err-clause-headline
returns-in-Err-clause-headline g c = run_headline _ _ _ _ _ (returns-in-Err-clause-outcome g c)

pub returns-in-Err-clause-complete : goal.returns-in-Err-clause-complete
returns-in-Err-clause-complete g c = run_complete _ _ _ _ _ (returns-in-Err-clause-outcome g c)

pub returns-in-Err-clause-confirms : goal.returns-in-Err-clause-confirms
returns-in-Err-clause-confirms g c = run_confirms _ _ _ _ _ (returns-in-Err-clause-outcome g c)
