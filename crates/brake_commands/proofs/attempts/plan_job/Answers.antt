use Rattle.std.proofs.Common.{◌≡◌, ◌⊎◌, ◌∷◌, [], List, Some, subst, rules}
use Rattle.setup_choice.specs.declared.outcome.Fit.TheVariants.{Ready}
use Rattle.command_runner.specs.Delivery.{AreStored, AreStoredUpTo}
use Rattle.brake_commands.specs.Attempts.{PlannedData, IsPlannedAs}
use Rattle.brake_commands.specs.Begun.{StoresPart}
use Rattle.brake_commands.specs.SetupsAnswer.{numbered_name}
use Rattle.brake_commands.proofs.Begun.{fails_in_part}
use Rattle.brake_commands.proofs.attempts.plan_job.Goals as goal

pub returns-in_err-store_cert-clause-err : goal.returns-in_err-store_cert-clause-err
returns-in_err-store_cert-clause-err g c =
    let found = c.in_ok-cert.ensures in
    let planned : PlannedData = record { job = c.copy-job.result; cert = found.0 } in
    let before = g.H.Shelf.state c.args.shelf.now in
    let after = g.H.Shelf.state c.store_cert.new.shelf in
    let is : IsPlannedAs (Ready c.args.job.now) (Some planned) =
    (c.copy-job.ensures.value, record { valid = rw c.copy-job.ensures.value c.copy-job.ensures.valid; proves = found.1; few_rows = found.2 }) in
    let stored = subst (λ (text : List _). (after ≡ before) ⊎ AreStoredUpTo (record { name = numbered_name c.args.name.now c.args.place; text = text } ∷ []) before after) found.3.text c.in_err-store_cert.ensures.err in
    let part : StoresPart c.args.name.now c.args.place (Ready c.args.job.now) before after =
    fails_in_part c.args.name.now c.args.place (Ready c.args.job.now) (Some planned) before after is stored in
    search (rules, part)

pub returns-clause-ok : goal.returns-clause-ok
returns-clause-ok g c =
    let found = c.in_ok-cert.ensures in
    let before = g.H.Shelf.state c.args.shelf.now in
    let after = g.H.Shelf.state c.store_cert.new.shelf in
    record {
      planned = Some (record { job = c.copy-job.result; cert = found.0 });
      is_planned = (c.copy-job.ensures.value, record { valid = rw c.copy-job.ensures.value c.copy-job.ensures.valid; proves = found.1; few_rows = found.2 });
      keeps = λ i. Some (record { job = c.copy-job.result; cert = record { claim = found.3.claim i; steps = found.3.steps i; rows = []; notes = [] } });
      are_stored = subst (λ (text : List _). AreStored (record { name = numbered_name c.args.name.now c.args.place; text = text } ∷ []) before after) found.3.text c.in_ok-store_cert.ensures.ok;
      faults = c.in_ok-store_cert.ensures.faults;
    }
