use Rattle.std.proofs.Common.{arith, ◌≡◌, ap}
use Rattle.plan_lines.specs.Reading.{Reading}
use Rattle.plan_cert.proofs.Collecting.{some_answer}
use Rattle.certificate_tests.proofs.plan_cert_tests.a_table_file_begins_with_its_job.Goals as goal

pub next-first-requires : goal.next-first-requires
next-first-requires g c =
    let reader = c.table-reader.result in
    let start : reader.answered ≡ 0 = ap (λ (r : Reading). r.answered) c.table-reader.ensures.reader in
    let some = some_answer reader.kind reader.text in
    omega (arith, start, some)
