-- A certificate as numbers and lists.
use Rattle.std.specs.Prelude.{List}
use Rattle.brake_base.specs.declared.stroke.Step.{Step}
use Rattle.brake_base.specs.declared.stroke.Worth.{Worth}
use Rattle.cert_lines.specs.declared.row_head.RowHead.{RowHead}
use Rattle.plan_lines.specs.declared.note.Note.{Note}
use Rattle.plan_cert.specs.declared.cert.Cert.{Cert}

-- a claim, the steps of a plan of that cost, settled keys with what was proved of them, and the
-- reasons that were found there
pub record CertData : Type 0 where
  pub claim : Worth
  pub steps : List Step
  pub rows : List RowHead
  pub notes : List Note

abbrev pub cert_data : Cert → CertData
cert_data c = record {
  claim = c.claim;
  steps = c.steps.items;
  rows = c.rows.items;
  notes = c.notes.items;
}
