-- What a certificate of a job keeps to, whether it proves its claim or not.
use Rattle.std.specs.Prelude.{◌≡◌, ◌*◌, ◌<◌, ◌≤◌, ◌⊎◌, IsTrue, List, [], length, map, All}
use Rattle.std.specs.Prelude.{AllPairs, slice_index_or}
use Rattle.brake_base.specs.declared.stroke.Step.{Step}
use Rattle.brake_base.specs.declared.stroke.Worth.{Worth}
use Rattle.brake_base.specs.declared.stroke.Worth.TheVariants.{Cost, Blocked}
use Rattle.brake_base.specs.Keys.{KeyIsBefore}
use Rattle.job_setup.specs.Setup.{JobData, bend_count, stage_count}
use Rattle.job_setup.specs.StrokeGroup.{is_lead}
use Rattle.cert_lines.specs.declared.row_head.RowHead.{RowHead}
use Rattle.plan_lines.specs.declared.note.Note.{Note}
use Rattle.plan_cert.specs.Cert.{CertData}
use Rattle.cert_lines.specs.Lines.{action_at}
use Rattle.cert_lines.specs.Lines.{IsWorth}
use Rattle.plan_lines.specs.LinesFit.{IsStep, IsRow, IsReasonInRange}

-- with a cost as the claim at most a step for each bend; without a plan none
abbrev pub HasSteps : JobData → Worth → List Step → Type 0
HasSteps job (Cost cost) steps = length steps ≤ bend_count job
HasSteps job Blocked steps = steps ≡ []

-- a reason against an action at a row, on the lead of a stroke there
pub record IsNote (job : JobData) (rows : List RowHead) (note : Note) : Type 0 where
  pub row : note.row < length rows
  pub action : note.action < 2 * bend_count job * stage_count job
  pub reason : IsReasonInRange job note.reason
  pub lead : (d : RowHead)
      → IsTrue (is_lead job (slice_index_or rows note.row d).key.mask
      (action_at (stage_count job) note.action).bend)

-- notes stand in the order of their rows, then of their actions
abbrev pub NoteIsBefore : Note → Note → Type 0
NoteIsBefore a b = (a.row < b.row) ⊎ ((a.row ≡ b.row) × (a.action < b.action))

-- rows of the job, in strict order of their keys
pub record AreRowsOf (job : JobData) (rows : List RowHead) : Type 0 where
  pub each : All (IsRow job) rows
  pub order : AllPairs KeyIsBefore (map (λ row. row.key) rows)

-- rows of the job in strict order of their keys, and notes in strict order
pub record AreRows (job : JobData) (rows : List RowHead) (notes : List Note) : Type 0 where
  pub each_row : All (IsRow job) rows
  pub row_order : AllPairs KeyIsBefore (map (λ row. row.key) rows)
  pub each_note : All (IsNote job rows) notes
  pub note_order : AllPairs NoteIsBefore notes

-- the rules of a certificate's lines after the job
pub record IsWellFormed (job : JobData) (cert : CertData) : Type 0 where
  pub claim : IsWorth cert.claim
  pub has_steps : HasSteps job cert.claim cert.steps
  pub steps : All (IsStep job) cert.steps
  pub rows : AreRows job cert.rows cert.notes
