use Rattle.std.proofs.Common.{◌≡◌, Ok, Err, subst, sym}
use Rattle.std.specs.Prelude.{◌⊎◌}
use Rattle.std.proofs.lemmas.Result.{err_from_is_err_and}
use Rattle.toml_fields.specs.Results.{GivesOr}
use Rattle.plan_lines.specs.declared.item.CertFault.TheVariants.{NoMemory}
use Rattle.plan_cert.specs.Cert.{cert_data}
use Rattle.plan_cert.specs.CertReading.{cert_file_data, file_of, BeginsWith}
use Rattle.plan_cert.proofs.Collecting.{read_ok, read_err}
use Rattle.plan_cert.proofs.cert_reading.read_file.Goals as goal

pub returns-in_err-collect : goal.returns-in_err-collect
returns-in_err-collect c =
    let begins = subst (λ r. BeginsWith r (Ok c.in_ok-job.job) c.first_job.new.reader) c.of-reader.ensures c.in_ok-job.ensures in
    let answer = err_from_is_err_and c.from_residual-in_err-collect.result c.from_residual-in_err-collect.ensures.1 in
    let told = subst (λ f. (f ≡ NoMemory) ⊎ (file_of c.args.kind c.args.text.now ≡ Err f)) (sym answer.2)
    (read_err c.args.kind c.args.text.now c.in_ok-job.job c.first_job.new.reader (cert_data c.no_cert-cert.result) c.in_err-collect.field-0.0 begins c.no_cert-cert.ensures c.in_err-collect.ensures) in
    subst (λ r. GivesOr NoMemory cert_file_data r (file_of c.args.kind c.args.text.now)) (sym answer.1) told

pub returns : goal.returns
returns c =
    let begins = subst (λ r. BeginsWith r (Ok c.in_ok-job.job) c.first_job.new.reader) c.of-reader.ensures c.in_ok-job.ensures in
    read_ok c.args.kind c.args.text.now c.in_ok-job.job c.first_job.new.reader (cert_data c.no_cert-cert.result) (cert_data c.collect.new.cert) c.version.result begins c.no_cert-cert.ensures c.in_ok-collect.ensures c.version.ensures
