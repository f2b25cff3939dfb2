use Rattle.std.proofs.Common.{◌-◌, ◌<◌, not, length, Ok}
use Rattle.plan_cert.specs.Cert.{cert_data}
use Rattle.plan_lines.specs.Items.{items}
use Rattle.plan_cert.specs.CertReading.{Collects}
use Rattle.plan_cert.proofs.cert_reading.collect.Given as goal

-- the job was read, and the items so far are added
abbrev pub invariant-loop-is_open : goal.invariant-loop-is_open
invariant-loop-is_open l = record {
  job : 0 < l.reader.answered;
  added : Collects (Ok (not l.is_open)) (cert_data l.initial.cert) l.initial.reader (cert_data l.cert) l.reader;
}

-- how many answers are left
abbrev pub decreases-loop-is_open : goal.decreases-loop-is_open
decreases-loop-is_open l = length (items l.reader.kind l.reader.text) - l.reader.answered
