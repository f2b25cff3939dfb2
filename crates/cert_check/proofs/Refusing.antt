-- A text that the reading refuses is no certificate's.
use Rattle.std.proofs.Common.{◌≡◌, List, ℕ, Result, Ok, Err}
use Rattle.plan_lines.specs.declared.item.CertFault.{CertFault}
use Rattle.plan_cert.specs.CertReading.{CertFileData, cert_file_of}
use Rattle.plan_cert.proofs.Exactly.{text_gives}
use Rattle.cert_check.specs.Texts.{IsRefusedFor}

not_both : (r : Result CertFileData CertFault) (f : CertFileData) (fault : CertFault) → r ≡ Ok f → r ≡ Err fault → ⊥
not_both r f fault one two = absurd cc

pub refused_for : (text : List ℕ) (fault : CertFault) → cert_file_of text ≡ Err fault → IsRefusedFor text fault
refused_for text fault is = record {
  reads = is;
  no_text = λ job cert written.
      let file : CertFileData = record { job = job; cert = cert; version = written.version } in
      not_both (cert_file_of text) file fault (text_gives text file written.exact) is;
}
