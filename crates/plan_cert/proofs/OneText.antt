-- Two valid jobs of one text are one: a certificate without rows, which claims that there is no plan, tells them apart.
use Rattle.std.proofs.Common.{◌≡◌, ℕ, List, [], ◌∷◌, ◌++◌, Ok, inl, refl, sym, ap, ◌∙◌, append_assoc}
use Rattle.std.specs.Result.{result_ok}
use Rattle.std.proofs.lemmas.Grind.{flat_map-append}
use Rattle.std.proofs.lemmas.List.Elements.{All-nil}
use Rattle.std.proofs.lemmas.Option.{same_Some}
use Rattle.brake_base.specs.declared.stroke.Worth.TheVariants.{Blocked}
use Rattle.job_setup.specs.Setup.{JobData}
use Rattle.job_setup.specs.ValidJob.{IsJob}
use Rattle.cert_lines.specs.declared.format.Format.TheVariants.{Version2}
use Rattle.cert_lines.specs.Lines.{CertLine, format_line, claim_line, end_line, line_text, lines_text}
use Rattle.cert_lines.specs.JobText.{job_lines, job_text}
use Rattle.plan_lines.specs.LinesFit.{IsStep}
use Rattle.plan_cert.specs.WellFormed.{IsWellFormed}
use Rattle.plan_cert.specs.CertText.{rows_lines, cert_text2}
use Rattle.plan_cert.specs.CertReading.{CertFileData, no_cert, cert_file_of}
use Rattle.plan_cert.specs.ExactTexts.{IsTextOf, IsOnlyJobOf}
use Rattle.plan_cert.proofs.ReadWell.{none_are}
use Rattle.plan_cert.proofs.Exactly.{text_gives}

no_rows : (job : JobData) → IsWellFormed job no_cert
no_rows job = record { claim = tt; has_steps = refl; steps = All-nil (IsStep job); rows = none_are job }

behind_job : List CertLine
behind_job = claim_line Blocked ∷ end_line ∷ []

-- the text of that certificate holds the text of its job
spelled : (job : JobData) → cert_text2 job no_cert ≡ line_text (format_line Version2) ++ (job_text job ++ lines_text behind_job)
unfolding cert_text2 job_text rows_lines behind_job
spelled job =
    ap (λ (lines : List CertLine). lines_text (format_line Version2 ∷ lines)) (append_assoc (job_lines job) (claim_line Blocked ∷ []) (end_line ∷ []))
    ∙ ap (λ (t : List ℕ). line_text (format_line Version2) ++ t) (flat_map-append line_text (job_lines job) (claim_line Blocked ∷ end_line ∷ []))

same_text : (job other : JobData) → job_text other ≡ job_text job → cert_text2 other no_cert ≡ cert_text2 job no_cert
same_text job other same = spelled other ∙ ap (λ (t : List ℕ). line_text (format_line Version2) ++ (t ++ lines_text behind_job)) same ∙ sym (spelled job)

abbrev file : JobData → CertFileData
file job = record { job = job; cert = no_cert; version = 2 }

is_text : (job : JobData) (text : List ℕ) → IsJob job → text ≡ cert_text2 job no_cert → IsTextOf (file job) text
is_text job text valid is = record { job = valid; form = no_rows job; spelled = inl (refl, is) }

pub one_text : (job : JobData) (text : List ℕ) → IsJob job → text ≡ job_text job → IsOnlyJobOf job text
one_text job text valid is other ok same =
    let whole = cert_text2 job no_cert in
    let first : cert_file_of whole ≡ Ok (file job) = text_gives whole (file job) (is_text job whole valid refl) in
    let second : cert_file_of whole ≡ Ok (file other) = text_gives whole (file other) (is_text other whole ok (sym (same_text job other (same ∙ is)))) in
    ap (λ (f : CertFileData). f.job) (same_Some (file other) (file job) (ap result_ok (sym second ∙ first)))
