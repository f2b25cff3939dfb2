use Rattle.std.proofs.Common.{Ok, ◌++◌, sym, subst}
use Rattle.job_setup.specs.Setup.{JobData}
use Rattle.plan_lines.specs.declared.item.Item.TheVariants as given
use Rattle.plan_lines.specs.Items.{items}
use Rattle.plan_lines.specs.Reading.{GivesNext}
use Rattle.cert_check.proofs.ReadLemmas.{job_read, edge_refused}
use Rattle.cert_check.proofs.read_cert.read_job.Goals as goal

pub returns-in_ok-begun-in-Ok-clause-read : goal.returns-in_ok-begun-in-Ok-clause-read
returns-in_ok-begun-in-Ok-clause-read c = λ behind.
    let kind = c.args.kind in
    let begun = c.in_ok-begun-in-Ok in
    let text = c.args.reader.now.rest.now ++ behind in
    let next = c.read_job.new.self in
    let rest = next.rest.now ++ behind in
    job_read kind text begun.field-0 next.place rest begun.ensures.parts begun.ensures.none
    (subst (λ (j : JobData). GivesNext (items kind text) (Ok (given.Job j)) next.place rest) (sym begun.ensures.job) (c.in-Ok.ensures.given behind tt))

pub returns-in-Err-clause-refused : goal.returns-in-Err-clause-refused
returns-in-Err-clause-refused c = λ fault behind same edge.
    let next = c.read_job.new.self in
    edge_refused c.args.kind (c.args.reader.now.rest.now ++ behind) behind c.in-Err.fault fault next.place (next.rest.now ++ behind) same edge (c.in-Err.ensures.given behind)
