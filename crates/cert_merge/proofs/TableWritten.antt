-- The text of a table, put together from its parts.
use Rattle.std.proofs.Common.{◌≡◌, ℕ, List, [], ◌∷◌, ◌++◌, codes, ap, sym, ◌∙◌, refl, append_assoc}
use Rattle.std.proofs.lemmas.List.{append-nil}
use Rattle.job_setup.specs.Setup.{JobData, stage_count}
use Rattle.cert_lines.specs.declared.row_head.RowHead.{RowHead}
use Rattle.plan_lines.specs.declared.note.Note.{Note}
use Rattle.cert_lines.specs.declared.format.Format.TheVariants.{Table}
use Rattle.cert_lines.specs.Lines.{format_line, end_line, line_text, lines_text}
use Rattle.cert_lines.specs.JobText.{job_lines, job_text}
use Rattle.plan_cert.specs.CertText.{rows_lines, table_text}
use Rattle.cert_lines.proofs.JobTexts.{three}

first_line : line_text (format_line Table) ≡ codes "brake-table 1\n"
unfolding line_text
first_line = refl

last_line : line_text end_line ≡ codes "end\n"
unfolding line_text
last_line = refl

-- the first line, the job, the rows, and the last line
pub table_written : (job : JobData) (rows : List RowHead) (notes : List Note) (stages : ℕ) (a b c d e : List ℕ) → stages ≡ stage_count job → a ≡ [] → b ≡ a ++ codes "brake-table 1\n" → c ≡ b ++ job_text job
    → d ≡ c ++ lines_text (rows_lines stages rows notes) → e ≡ d ++ codes "end\n" → e ≡ table_text job rows notes
unfolding table_text job_text
table_written job rows notes stages a b c d e all empty begun with_job filled ended =
    let head = line_text (format_line Table) ++ lines_text (job_lines job) in
    let body = lines_text (rows_lines (stage_count job) rows notes) in
    let last = line_text end_line ++ [] in
    let c_is : c ≡ head = with_job ∙ ap (λ (t : List ℕ). t ++ lines_text (job_lines job)) (begun ∙ (ap (λ (t : List ℕ). t ++ codes "brake-table 1\n") empty ∙ sym first_line)) in
    let d_is : d ≡ head ++ body = filled ∙ (λ i. c_is i ++ lines_text (rows_lines (all i) rows notes)) in
    let e_is : e ≡ (head ++ body) ++ last = ended ∙ (λ i. d_is i ++ sym (append-nil (line_text end_line) ∙ last_line) i) in
    e_is ∙ (append_assoc head body last ∙ sym (three (format_line Table ∷ job_lines job) (rows_lines (stage_count job) rows notes) (end_line ∷ [])))
