-- The answers up to the job.
use Rattle.std.proofs.Common.{◌≡◌, ℕ, ◌<◌, Bool, true, List, [], ◌∷◌, ◌++◌, length, Option, Some, None, Ok, Err, ap, ◌∙◌, arith}
use Rattle.std.specs.Prelude.{if◌then◌else◌, ◌&&◌}
use Rattle.std.proofs.lemmas.Bool.{false_from_ne_true}
use Rattle.job_setup.specs.Setup.{JobData}
use Rattle.job_setup.specs.ValidJob.{IsJobFrom}
use Rattle.cert_lines.specs.declared.format.TextKind.{TextKind}
use Rattle.cert_lines.specs.declared.format.Format.{Format}
use Rattle.plan_lines.specs.declared.item.Item.TheVariants as given
use Rattle.plan_lines.specs.declared.item.CertFault.TheVariants as faults
use Rattle.cert_lines.specs.JobTest.{is_job}
use Rattle.cert_lines.specs.Formats.{format_of}
use Rattle.cert_lines.specs.JobLines.{JobLinesData, no_lines, job_of}
use Rattle.plan_lines.specs.PlanReading.{first_section}
use Rattle.cert_lines.specs.JobFold.{take_line}
use Rattle.cert_lines.specs.LineReading.{lines_in}
use Rattle.plan_lines.specs.Items.{next_number, may_be_judged, judged_items, plan_items, items_behind, job_items, items_of_lines, items}
use Rattle.cert_lines.specs.LineReading.{IsCut}
use Rattle.plan_lines.specs.Reading.{IsJudged}
use Rattle.cert_lines.proofs.JobDecided.{job_decided}
use Rattle.cert_lines.proofs.WholeLines.{cut_before, uncut_before, some_line}

-- a job line is taken, or another line ends the job lines
whole_item : (n : ℕ) (lines : JobLinesData) (line : List ℕ) (rest : List (List ℕ)) (taken : Option JobLinesData) → 0 < length rest → take_line lines line ≡ taken
    → job_items n lines (line ∷ rest) ≡ elim taken [ Some t ↦ job_items (next_number n) t rest | None ↦ items_behind n lines line rest ]
unfolding job_items
whole_item n lines line [] taken some e = absurd (omega arith)
whole_item n lines line (next ∷ more) taken some e = ap (λ (o : Option JobLinesData). elim o [ Some t ↦ job_items (next_number n) t (next ∷ more) | None ↦ items_behind n lines line (next ∷ more) ]) e

pub stopped_any : (n : ℕ) (lines : JobLinesData) (line : List ℕ) (rest : List (List ℕ)) → 0 < length rest → take_line lines line ≡ None → job_items n lines (line ∷ rest) ≡ items_behind n lines line rest
stopped_any n lines line rest some e = whole_item n lines line rest None some e

pub cut_item : (n : ℕ) (lines : JobLinesData) (line text rest behind : List ℕ) (taken : Option JobLinesData) → IsCut text line rest → take_line lines line ≡ taken
    → job_items n lines (lines_in (text ++ behind)) ≡ elim taken [ Some t ↦ job_items (next_number n) t (lines_in (rest ++ behind)) | None ↦ items_behind n lines line (lines_in (rest ++ behind)) ]
cut_item n lines line text rest behind taken cut e =
    ap (λ (ls : List (List ℕ)). job_items n lines ls) (cut_before text line rest behind cut) ∙ whole_item n lines line (lines_in (rest ++ behind)) taken (some_line (rest ++ behind)) e

-- the text ends within the job lines
pub unended : (n : ℕ) (lines : JobLinesData) (text behind : List ℕ) → behind ≡ [] → lines_in text ≡ text ∷ [] → job_items n lines (lines_in (text ++ behind)) ≡ Err faults.Unended ∷ []
unfolding job_items
unended n lines text behind last uncut = ap (λ (ls : List (List ℕ)). job_items n lines ls) (uncut_before text behind last uncut)

-- the first line
pub first_unended : (kind : TextKind) (text behind : List ℕ) → behind ≡ [] → lines_in text ≡ text ∷ [] → items kind (text ++ behind) ≡ Err faults.Unended ∷ []
unfolding items
first_unended kind text behind last uncut = ap (λ (ls : List (List ℕ)). items_of_lines kind ls) (uncut_before text behind last uncut)

first_any : (kind : TextKind) (line : List ℕ) (rest : List (List ℕ)) (named : Option Format) → 0 < length rest → format_of kind line ≡ named
    → items_of_lines kind (line ∷ rest) ≡ elim named [ Some format ↦ job_items 2 (no_lines format) rest | None ↦ Err (faults.BadLine 1) ∷ [] ]
first_any kind line [] named some e = absurd (omega arith)
first_any kind line (next ∷ more) named some e = ap (λ (o : Option Format). elim o [ Some format ↦ job_items 2 (no_lines format) (next ∷ more) | None ↦ Err (faults.BadLine 1) ∷ [] ]) e

pub good_any : (kind : TextKind) (format : Format) (line : List ℕ) (rest : List (List ℕ)) → 0 < length rest → format_of kind line ≡ Some format → items_of_lines kind (line ∷ rest) ≡ job_items 2 (no_lines format) rest
good_any kind format line rest some e = first_any kind line rest (Some format) some e

pub first_cut : (kind : TextKind) (line text rest behind : List ℕ) (named : Option Format) → IsCut text line rest → format_of kind line ≡ named
    → items kind (text ++ behind) ≡ elim named [ Some format ↦ job_items 2 (no_lines format) (lines_in (rest ++ behind)) | None ↦ Err (faults.BadLine 1) ∷ [] ]
unfolding items
first_cut kind line text rest behind named cut e =
    ap (λ (ls : List (List ℕ)). items_of_lines kind ls) (cut_before text line rest behind cut) ∙ first_any kind line (lines_in (rest ++ behind)) named (some_line (rest ++ behind)) e

-- the line may follow the job lines, and they are a valid job, or not
pub judged_by : (n : ℕ) (lines : JobLinesData) (line : List ℕ) (rest : List (List ℕ)) (valid : Bool) → may_be_judged lines line ≡ true → (lines.is_sound && is_job (job_of lines)) ≡ valid
    → items_behind n lines line rest ≡ (if valid then Ok (given.Job (job_of lines)) ∷ plan_items lines.format (job_of lines) n (first_section lines.format) (line ∷ rest) else Err faults.BadJob ∷ [])
judged_by n lines line rest valid may is =
    ap (λ (b : Bool). if b then judged_items n lines (line ∷ rest) else Err (faults.BadLine n) ∷ []) may
    ∙ ap (λ (b : Bool). if b then Ok (given.Job (job_of lines)) ∷ plan_items lines.format (job_of lines) n (first_section lines.format) (line ∷ rest) else Err faults.BadJob ∷ []) is

-- what `job_from` says of the values
pub judged : (lines : JobLinesData) (job : Option JobData) → lines.is_sound ≡ true → IsJobFrom job (job_of lines) → IsJudged job lines
judged lines (Some job) sound from =
    let valid : is_job (job_of lines) ≡ true = (job_decided (job_of lines)).1 from.1 in
    (from.0, ap (λ (b : Bool). b && is_job (job_of lines)) sound ∙ valid)
judged lines None sound none =
    ap (λ (b : Bool). b && is_job (job_of lines)) sound ∙ false_from_ne_true (is_job (job_of lines)) (λ t. none ((job_decided (job_of lines)).0 t))
