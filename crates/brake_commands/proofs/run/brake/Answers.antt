use Rattle.std.proofs.Common.{◌≡◌, Some, None, sym, map, string_bytes}
use Rattle.command_runner.proofs.Outcomes.{outcome_of}
use Rattle.brake_commands.specs.Forms.{command_of}
use Rattle.brake_commands.proofs.Answering.{run_tells}
use Rattle.brake_commands.proofs.Headlines.{run_headline}
use Rattle.brake_commands.proofs.Complete.{run_complete}
use Rattle.brake_commands.proofs.Confirming.{run_confirms}
use Rattle.brake_commands.proofs.run.brake.Goals as goal

pub returns-in-Some-clause-ends : goal.returns-in-Some-clause-ends
returns-in-Some-clause-ends g c =
    let some : command_of (map string_bytes c.args.words.now) ≡ Some c.in-Some.command = sym c.in-Some.ensures.value in
    rw some c.run_command.ensures.ends

pub returns-in-Some-clause-outcome : goal.returns-in-Some-clause-outcome
returns-in-Some-clause-outcome g c = outcome_of _ _ _ _ _ _ _ (returns-in-Some-clause-ends g c)

pub returns-in-Some-clause-told : goal.returns-in-Some-clause-told
returns-in-Some-clause-told g c = run_tells _ _ _ _ _ (returns-in-Some-clause-outcome g c)

pub returns-in-Some-clause-headline : goal.returns-in-Some-clause-headline
returns-in-Some-clause-headline g c = run_headline _ _ _ _ _ (returns-in-Some-clause-outcome g c)

pub returns-in-Some-clause-complete : goal.returns-in-Some-clause-complete
returns-in-Some-clause-complete g c = run_complete _ _ _ _ _ (returns-in-Some-clause-outcome g c)

pub returns-in-Some-clause-confirms : goal.returns-in-Some-clause-confirms
returns-in-Some-clause-confirms g c = run_confirms _ _ _ _ _ (returns-in-Some-clause-outcome g c)

pub returns-in-None-clause-ends : goal.returns-in-None-clause-ends
returns-in-None-clause-ends g c =
    let none : command_of (map string_bytes c.args.words.now) ≡ None = sym c.in-None.ensures.value in
    rw none (c.put_usage.ensures.ends (map string_bytes c.args.words.now))

pub returns-in-None-clause-cause : goal.returns-in-None-clause-cause
returns-in-None-clause-cause g c = λ fault.
    let none : command_of (map string_bytes c.args.words.now) ≡ None = sym c.in-None.ensures.value in
    rw none (c.put_usage.ensures.cause (map string_bytes c.args.words.now) fault)

pub returns-in-None-clause-outcome : goal.returns-in-None-clause-outcome
returns-in-None-clause-outcome g c = outcome_of _ _ _ _ _ _ _ (returns-in-None-clause-ends g c)

pub returns-in-None-clause-told : goal.returns-in-None-clause-told
returns-in-None-clause-told g c = run_tells _ _ _ _ _ (returns-in-None-clause-outcome g c)

pub returns-in-None-clause-headline : goal.returns-in-None-clause-headline
returns-in-None-clause-headline g c = run_headline _ _ _ _ _ (returns-in-None-clause-outcome g c)

pub returns-in-None-clause-complete : goal.returns-in-None-clause-complete
returns-in-None-clause-complete g c = run_complete _ _ _ _ _ (returns-in-None-clause-outcome g c)

pub returns-in-None-clause-confirms : goal.returns-in-None-clause-confirms
returns-in-None-clause-confirms g c = run_confirms _ _ _ _ _ (returns-in-None-clause-outcome g c)
