-- The text of a certificate, put together from its parts.
use Rattle.std.proofs.Common.{◌≡◌, ℕ, ◌*◌, ◌<◌, ◌≤◌, List, [], ◌∷◌, ◌++◌, codes, map, All, ap, sym, ◌∙◌, refl, append_assoc, arith}
use Rattle.std.specs.List.{flat_map}
use Rattle.std.proofs.lemmas.List.{append-nil}
use Rattle.job_setup.specs.Setup.{JobData, bend_count, stage_count}
use Rattle.job_setup.specs.ValidJob.{IsJob}
use Rattle.cert_lines.specs.declared.row_head.RowHead.{RowHead}
use Rattle.plan_lines.specs.declared.note.Note.{Note}
use Rattle.cert_lines.specs.declared.format.Format.TheVariants.{Version2}
use Rattle.plan_cert.specs.Cert.{CertData}
use Rattle.cert_lines.specs.Lines.{CertLine, format_line, claim_line, step_line, end_line, line_text, lines_text}
use Rattle.cert_lines.specs.JobText.{job_lines, job_text}
use Rattle.plan_cert.specs.WellFormed.{IsNote}
use Rattle.plan_cert.specs.CertText.{rows_lines, cert_text2}
use Rattle.cert_lines.proofs.JobTexts.{joined, four, of_kind}
use Rattle.plan_lines.proofs.Actions.{few_actions}

first_line : line_text (format_line Version2) ≡ codes "brake-cert 2\n"
unfolding line_text
first_line = refl

last_line : line_text end_line ≡ codes "end\n"
unfolding line_text
last_line = refl

-- the first line, the job, the claim, the steps, the rows, and the last line
pub cert_written : (job : JobData) (cert : CertData) (stages : ℕ) (a b c d e f g : List ℕ) → stages ≡ stage_count job → a ≡ [] → b ≡ a ++ codes "brake-cert 2\n"
    → c ≡ b ++ job_text job → d ≡ c ++ line_text (claim_line cert.claim) → e ≡ d ++ flat_map (λ step. line_text (step_line step)) cert.steps
    → f ≡ e ++ lines_text (rows_lines stages cert.rows cert.notes) → g ≡ f ++ codes "end\n" → g ≡ cert_text2 job cert
unfolding cert_text2 job_text
cert_written job cert stages a b c d e f g all empty begun with_job claimed stepped filled ended =
    let head = line_text (format_line Version2) ++ lines_text (job_lines job) in
    let plan = line_text (claim_line cert.claim) ++ lines_text (map step_line cert.steps) in
    let rows = lines_text (rows_lines (stage_count job) cert.rows cert.notes) in
    let last = line_text end_line ++ [] in
    let c_is : c ≡ [] ++ head =
    with_job ∙ ap (λ (t : List ℕ). t ++ lines_text (job_lines job)) (begun ∙ ap (λ (t : List ℕ). t ++ codes "brake-cert 2\n") empty ∙ sym first_line) in
    let e_is : e ≡ c ++ plan =
    of_kind step_line cert.steps d e stepped ∙ ap (λ (t : List ℕ). t ++ lines_text (map step_line cert.steps)) claimed ∙ append_assoc c (line_text (claim_line cert.claim)) (lines_text (map step_line cert.steps)) in
    let f_is : f ≡ e ++ rows = filled ∙ ap (λ (n : ℕ). e ++ lines_text (rows_lines n cert.rows cert.notes)) all in
    let g_is : g ≡ f ++ last = ended ∙ ap (λ (t : List ℕ). f ++ t) (sym (append-nil (line_text end_line) ∙ last_line)) in
    joined [] head plan rows last c e f g c_is e_is f_is g_is
    ∙ sym (four (format_line Version2 ∷ job_lines job) (claim_line cert.claim ∷ map step_line cert.steps) (rows_lines (stage_count job) cert.rows cert.notes) (end_line ∷ []))
    ∙ ap (λ (ls : List CertLine). lines_text (ls ++ end_line ∷ [])) (append_assoc (format_line Version2 ∷ job_lines job) (claim_line cert.claim ∷ map step_line cert.steps) (rows_lines (stage_count job) cert.rows cert.notes))

-- the numbers of the actions of a job's notes
pub actions_below : (job : JobData) (rows : List RowHead) (notes : List Note) (stages : ℕ) → IsJob job → stages ≡ stage_count job → All (IsNote job rows) notes
    → All (λ note. note.action < 24 * stages) notes
actions_below job rows notes stages valid all each i d within =
    let few : bend_count job ≤ 12 = omega (arith, valid.part.few_faces) in
    omega (arith, few_actions _ (bend_count job) (stage_count job) few (each i d within).action, all)
