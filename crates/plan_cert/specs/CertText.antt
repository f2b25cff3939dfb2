-- The texts of a certificate and of a table file: all have the lines of version 2, but for those
-- that version 1 leaves out.
use Rattle.std.specs.Prelude.{ℕ, ◌==◌, List, [], ◌∷◌, ◌++◌, map, filter}
use Rattle.std.specs.List.{flat_map, enumerate_from}
use Rattle.job_setup.specs.Setup.{JobData, stage_count}
use Rattle.cert_lines.specs.declared.row_head.RowHead.{RowHead}
use Rattle.plan_lines.specs.declared.note.Note.{Note}
use Rattle.cert_lines.specs.declared.format.Format.{Format}
use Rattle.cert_lines.specs.declared.format.Format.TheVariants.{Version1, Version2, Table}
use Rattle.plan_cert.specs.Cert.{CertData}
use Rattle.cert_lines.specs.Lines.{CertLine, format_line}
use Rattle.cert_lines.specs.Lines.{claim_line, step_line, row_line, note_line, end_line}
use Rattle.cert_lines.specs.Lines.{lines_text, action_at}
use Rattle.cert_lines.specs.JobText.{job_lines}
use Rattle.cert_lines.specs.Lines.{lines_of_format}

-- the line of a note on a machine with so many stages
abbrev pub line_of_note : ℕ → Note → CertLine
line_of_note stages note = note_line (action_at stages note.action) note.reason

-- a row, and its notes
abbrev pub row_lines : ℕ → List Note → ℕ × RowHead → List CertLine
row_lines stages notes row =
    row_line row.1 ∷ map (line_of_note stages) (filter (λ note. note.row == row.0) notes)

-- the rows in order, each with its notes
unfoldable pub rows_lines : ℕ → List RowHead → List Note → List CertLine
rows_lines stages rows notes = flat_map (row_lines stages notes) (enumerate_from 0 rows)

-- the lines of a text: its format, the job, the lines behind the job, and the end
abbrev pub format_lines : Format → JobData → List CertLine → List CertLine
format_lines format job behind =
    format_line format ∷ lines_of_format format (job_lines job) ++ behind ++ end_line ∷ []

-- the lines of a certificate behind its job
abbrev pub plan_lines : JobData → CertData → List CertLine
plan_lines job cert =
    claim_line cert.claim ∷ map step_line cert.steps
    ++ rows_lines (stage_count job) cert.rows cert.notes

-- the text of a certificate that is written: version 2
unfoldable pub cert_text2 : JobData → CertData → List ℕ
cert_text2 job cert = lines_text (format_lines Version2 job (plan_lines job cert))

-- its text in version 1
unfoldable pub cert_text1 : JobData → CertData → List ℕ
cert_text1 job cert = lines_text (format_lines Version1 job (plan_lines job cert))

-- the text of a table file: the rows of a job in order, each with its notes
unfoldable pub table_text : JobData → List RowHead → List Note → List ℕ
table_text job rows notes =
    lines_text (format_lines Table job (rows_lines (stage_count job) rows notes))
