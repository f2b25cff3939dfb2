use Rattle.std.proofs.Common.{refl, sym, subst}
use Rattle.std.proofs.lemmas.Result.{err_from_is_err_and}
use Rattle.job_setup.specs.Setup.{JobData}
use Rattle.cert_merge.specs.ProvedTable.{IsCheckedTable}
use Rattle.brake_commands.proofs.TableAnswers.{prove_stopped}
use Rattle.brake_commands.proofs.table_check.checked_text.Goals as goal

pub returns-in_err-proved : goal.returns-in_err-proved
returns-in_err-proved c =
    let answer = err_from_is_err_and c.from_residual.result c.from_residual.ensures.1 in
    rw (answer.1, answer.2) (record { value = prove_stopped c.args.text.now c.in_err-proved.field-0.0 c.in_err-proved.ensures.answer })

pub returns : goal.returns
returns c =
    let of = c.in_ok-proved.ensures.answer in
    let table = of.file.table in
    record { value = (refl, (table, subst (λ (job : JobData). IsCheckedTable c.args.text.now (record { job = job; table = table })) (sym of.job) of.checked)) }
