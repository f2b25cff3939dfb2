-- The items of a certificate or a table file, in order, up to its end or to the refusal.
use Rattle.std.specs.Prelude.{ℕ, ◌+◌, ◌-◌, ◌^◌, min, Bool, true, false, ◌&&◌, List, [], ◌∷◌}
use Rattle.std.specs.Prelude.{Some, None, Result, Ok, Err, if◌then◌else◌}
use Rattle.job_setup.specs.Setup.{JobData, bend_count, stage_count}
use Rattle.cert_lines.specs.declared.format.TextKind.{TextKind}
use Rattle.cert_lines.specs.declared.format.Format.{Format}
use Rattle.plan_lines.specs.declared.section.Section.{Section}
use Rattle.plan_lines.specs.declared.section.Section.TheVariants as sections
use Rattle.plan_lines.specs.declared.item.Item.{Item}
use Rattle.plan_lines.specs.declared.item.Item.TheVariants as given
use Rattle.plan_lines.specs.declared.item.CertFault.{CertFault}
use Rattle.plan_lines.specs.declared.item.CertFault.TheVariants as faults
use Rattle.cert_lines.specs.JobTest.{is_job}
use Rattle.cert_lines.specs.Formats.{format_of}
use Rattle.cert_lines.specs.JobLines.{JobLinesData, no_lines, job_of}
use Rattle.cert_lines.specs.JobFold.{is_complete}
use Rattle.plan_lines.specs.PlanReading.{may_leave, take_plan_line, may_follow_job, first_section}
use Rattle.plan_lines.specs.PlanReading.{is_end_line}
use Rattle.cert_lines.specs.LineReading.{keyword_in, behind_keyword}
use Rattle.cert_lines.specs.LineReading.{lines_in}
use Rattle.cert_lines.specs.JobFold.{take_line}

-- the number of the next line; a count stands still at the greatest u32, which no certificate
-- reaches
abbrev pub next_number : ℕ → ℕ
next_number n = min (n + 1) (2 ^ 32 - 1)

-- the end, where nothing stands behind its line
abbrev pub end_before : List (List ℕ) → Result Item CertFault
end_before ([] ∷ []) = Ok given.End
end_before _ = Err faults.Trailing

abbrev pub is_over : Section → Bool
is_over sections.Over = true
is_over _ = false

-- what a line behind the job gives that is no claim, step, row or note where it stands
abbrev pub end_or_fault : Format → JobData → ℕ → Section → List ℕ → List (List ℕ)
    → Result Item CertFault
end_or_fault format job n section line rest =
    if is_end_line line && may_leave format (bend_count job) section
    then end_before rest
    else Err (faults.BadLine n)

-- what line n behind the job gives, and where the next one stands
abbrev pub plan_item : Format → JobData → ℕ → Section → List ℕ → List (List ℕ)
    → Result Item CertFault × Section
plan_item format job n section line [] = (Err faults.Unended, sections.Over)
plan_item format job n section line (next ∷ more) =
    elim (take_plan_line format job section (keyword_in line) (behind_keyword line)) [
      | Some taken ↦ (Ok taken.0, taken.1)
      | None ↦ (end_or_fault format job n section line (next ∷ more), sections.Over)
    ]

-- what the lines behind the job give, from line n on
unfoldable pub plan_items : Format → JobData → ℕ → Section → List (List ℕ)
    → List (Result Item CertFault)
plan_items format job n section [] = []
plan_items format job n section (line ∷ rest) = if is_over section
    then []
    else (plan_item format job n section line rest).0
    ∷ plan_items format job (next_number n) (plan_item format job n section line rest).1 rest

-- the job of the job lines and what stands behind them, from line n on
abbrev pub judged_items : ℕ → JobLinesData → List (List ℕ) → List (Result Item CertFault)
judged_items n lines rest = if lines.is_sound && is_job (job_of lines)
    then Ok (given.Job (job_of lines))
    ∷ plan_items lines.format (job_of lines) n (first_section lines.format) rest
    else Err faults.BadJob ∷ []

-- the job lines are complete, and the line may follow them
abbrev pub may_be_judged : JobLinesData → List ℕ → Bool
may_be_judged lines line =
    is_complete lines.section
    && may_follow_job lines.format (bend_count (job_of lines)) (stage_count (job_of lines)) line

-- what stands behind the job lines, from line n on
abbrev pub items_behind : ℕ → JobLinesData → List ℕ → List (List ℕ) → List (Result Item CertFault)
items_behind n lines line rest = if may_be_judged lines line
    then judged_items n lines (line ∷ rest)
    else Err (faults.BadLine n) ∷ []

-- the items from line n on, behind these job lines
unfoldable pub job_items : ℕ → JobLinesData → List (List ℕ) → List (Result Item CertFault)
job_items n lines [] = []
job_items n lines (line ∷ []) = Err faults.Unended ∷ []
job_items n lines (line ∷ next ∷ more) = elim (take_line lines line) [
  | Some taken ↦ job_items (next_number n) taken (next ∷ more)
  | None ↦ items_behind n lines line (next ∷ more)
]

-- the items of the lines of a text
abbrev pub items_of_lines : TextKind → List (List ℕ) → List (Result Item CertFault)
items_of_lines kind [] = []
items_of_lines kind (line ∷ []) = Err faults.Unended ∷ []
items_of_lines kind (line ∷ next ∷ more) = elim (format_of kind line) [
  | Some format ↦ job_items 2 (no_lines format) (next ∷ more)
  | None ↦ Err (faults.BadLine 1) ∷ []
]

-- the items of a text, up to and with its end, or up to and with the refusal
unfoldable pub items : TextKind → List ℕ → List (Result Item CertFault)
items kind text = items_of_lines kind (lines_in text)
