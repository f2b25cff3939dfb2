-- What a text gives: a refusal alone, or behind its format and the lines of a valid job this job and what the other lines give.
use Rattle.std.proofs.Common.{inl, inr, length, ◌<◌, arith, ◌≡◌, ℕ, true, ◌&&◌, List, [], ◌∷◌, ◌++◌, codes, map, Option, Some, None, Result, Ok, Err, refl, ap, subst, ◌∙◌}
use Rattle.std.specs.Prelude.{◌⊎◌}
use Rattle.std.proofs.lemmas.Bool.{and_parts, cond_both}
use Rattle.job_setup.specs.Setup.{JobData, bend_count, stage_count}
use Rattle.job_setup.specs.ValidJob.{IsJob}
use Rattle.cert_lines.specs.Lines.{lines_of_format}
use Rattle.cert_lines.specs.declared.format.Format.{Format}
use Rattle.cert_lines.specs.declared.format.Format.TheVariants.{Version1, Version2, Table}
use Rattle.cert_lines.specs.declared.format.TextKind.{TextKind}
use Rattle.cert_lines.specs.declared.format.TextKind.TheVariants.{Certificate, Table as TableKind}
use Rattle.plan_lines.specs.declared.item.Item.{Item}
use Rattle.plan_lines.specs.declared.item.Item.TheVariants as given
use Rattle.plan_lines.specs.declared.item.CertFault.{CertFault}
use Rattle.plan_lines.specs.declared.item.CertFault.TheVariants as faults
use Rattle.cert_lines.specs.Lines.{CertLine, format_line}
use Rattle.cert_lines.specs.JobText.{job_lines}
use Rattle.cert_lines.specs.JobTest.{is_job}
use Rattle.cert_lines.specs.Formats.{format_of}
use Rattle.cert_words.specs.LineWords.{◌>>=◌}
use Rattle.cert_lines.specs.JobLines.{JobLinesData, no_lines, job_of}
use Rattle.cert_lines.specs.JobFold.{is_complete, all_by, take}
use Rattle.plan_lines.specs.PlanReading.{first_section, may_follow_job}
use Rattle.cert_lines.specs.JobFold.{take_line}
use Rattle.plan_lines.specs.Items.{next_number, plan_items, judged_items, may_be_judged, items_behind, job_items, items_of_lines}
use Rattle.cert_lines.proofs.JobDecided.{job_decided}
use Rattle.cert_lines.proofs.Each.{Each}
use Rattle.cert_lines.proofs.FormatLines.{JobIn}
use Rattle.cert_lines.proofs.FoldFormats.{spelled, fold_format}
use Rattle.cert_lines.proofs.JobLineRead.{job_lines_read}
use Rattle.cert_lines.proofs.LinesTaken.{Leads, taken_spelled}
use Rattle.cert_lines.proofs.TextLines.{line_bytes}
use Rattle.cert_lines.proofs.Spelling.{by_word}

-- answers are a refusal alone, or there is this
abbrev pub Shaped : List (Result Item CertFault) → Type 0 → Type 0
Shaped answers P = ((fault : CertFault) × (answers ≡ Err fault ∷ [])) ⊎ P

-- the job lines are those of a valid job, and then these lines give the items behind the job
record Ends (end : JobLinesData) (rest : List (List ℕ)) (answers : List (Result Item CertFault)) : Type 0 where
  complete : is_complete end.section ≡ true
  sound : end.is_sound ≡ true
  valid : IsJob (job_of end)
  number : ℕ
  some : 0 < length rest
  behind : answers ≡ Ok (given.Job (job_of end)) ∷ plan_items end.format (job_of end) number (first_section end.format) rest

-- lines are job lines of a valid job up to a place from which the items behind the job are read
record Splits (s : JobLinesData) (lines : List (List ℕ)) (answers : List (Result Item CertFault)) : Type 0 where
  taken : List CertLine
  end : JobLinesData
  rest : List (List ℕ)
  fold : all_by take s taken ≡ Some end
  lines_are : lines ≡ map line_bytes taken ++ rest
  ends : Ends end rest answers

judged_splits : (n : ℕ) (s : JobLinesData) (rest : List (List ℕ)) → is_complete s.section ≡ true → 0 < length rest → Shaped (judged_items n s rest) (Splits s rest (judged_items n s rest))
judged_splits n s rest complete some =
    cond_both (s.is_sound && is_job (job_of s)) (Ok (given.Job (job_of s)) ∷ plan_items s.format (job_of s) n (first_section s.format) rest) (Err faults.BadJob ∷ []) (λ answers. Shaped answers (Splits s rest answers))
    (λ is. let parts = and_parts s.is_sound (is_job (job_of s)) is in
    inr (record { taken = []; end = s; rest = rest; fold = refl; lines_are = refl; ends = record { complete = complete; sound = parts.0; valid = (job_decided (job_of s)).0 parts.1; number = n; some = some; behind = refl } }))
    (λ is. inl (faults.BadJob, refl))

behind_splits : (n : ℕ) (s : JobLinesData) (line : List ℕ) (rest : List (List ℕ)) → Shaped (items_behind n s line rest) (Splits s (line ∷ rest) (items_behind n s line rest))
behind_splits n s line rest =
    cond_both (may_be_judged s line) (judged_items n s (line ∷ rest)) (Err (faults.BadLine n) ∷ []) (λ answers. Shaped answers (Splits s (line ∷ rest) answers))
    (λ is. judged_splits n s (line ∷ rest) ((and_parts (is_complete s.section) (may_follow_job s.format (bend_count (job_of s)) (stage_count (job_of s)) line) is).0) (omega arith))
    (λ is. inl (faults.BadLine n, refl))

one_more : (s t : JobLinesData) (line : List ℕ) (rest : List (List ℕ)) (answers : List (Result Item CertFault)) → Leads (take s) line t → Shaped answers (Splits t rest answers) → Shaped answers (Splits s (line ∷ rest) answers)
one_more s t line rest answers leads (inl refused) = inl refused
one_more s t line rest answers leads (inr splits) =
    let (first, is, takes) = leads in
    inr (record {
      taken = first ∷ splits.taken;
      end = splits.end;
      rest = splits.rest;
      fold = ap (λ (o : Option JobLinesData). o >>= λ u. all_by take u splits.taken) takes ∙ splits.fold;
      lines_are = ap (λ (l : List ℕ). l ∷ rest) is ∙ ap (λ (ls : List (List ℕ)). line_bytes first ∷ ls) splits.lines_are;
      ends = splits.ends;
    })

job_splits : (n : ℕ) (s : JobLinesData) (lines : List (List ℕ)) → 0 < length lines → Shaped (job_items n s lines) (Splits s lines (job_items n s lines))
unfolding job_items take_line
job_splits n s [] some = absurd (omega arith)
job_splits n s (line ∷ []) some = inl (faults.Unended, refl)
job_splits n s (line ∷ next ∷ more) some = by_taken (take_line s line) (taken_spelled job_lines_read (take s) line) (λ t. job_splits (next_number n) t (next ∷ more) (omega arith))
  where
    answers : Option JobLinesData → List (Result Item CertFault)
    answers (Some t) = job_items (next_number n) t (next ∷ more)
    answers None = items_behind n s line (next ∷ more)

    by_taken : (taken : Option JobLinesData) → Each (Leads (take s) line) taken → ((t : JobLinesData) → Shaped (job_items (next_number n) t (next ∷ more)) (Splits t (next ∷ more) (job_items (next_number n) t (next ∷ more))))
        → Shaped (answers taken) (Splits s (line ∷ next ∷ more) (answers taken))
    by_taken (Some t) leads splits = one_more s t line (next ∷ more) (job_items (next_number n) t (next ∷ more)) leads (splits t)
    by_taken None leads splits = behind_splits n s line (next ∷ more)

-- the first line names the format
format_is : (kind : TextKind) (line : List ℕ) → Each (λ (f : Format). line ≡ line_bytes (format_line f)) (format_of kind line)
format_is Certificate line =
    let P : Format → Type 0 = λ f. line ≡ line_bytes (format_line f) in
    by_word P line (codes "brake-cert 1") Version1 _ (λ e. e) (by_word P line (codes "brake-cert 2") Version2 None (λ e. e) tt)
format_is TableKind line = by_word (λ (f : Format). line ≡ line_bytes (format_line f)) line (codes "brake-table 1") Table None (λ e. e) tt

-- the lines are those of a format that texts of this kind have: its name, the valid job that it tells of, and others
pub record Begins (kind : TextKind) (lines : List (List ℕ)) (answers : List (Result Item CertFault)) : Type 0 where
  pub job : JobData
  pub format : Format
  pub named : format_of kind (line_bytes (format_line format)) ≡ Some format
  pub valid : IsJob job
  pub tells : JobIn format job
  pub rest : List (List ℕ)
  pub number : ℕ
  pub some : 0 < length rest
  pub lines_are : lines ≡ line_bytes (format_line format) ∷ (map line_bytes (lines_of_format format (job_lines job)) ++ rest)
  pub behind : answers ≡ Ok (given.Job job) ∷ plan_items format job number (first_section format) rest

format_begins : (kind : TextKind) (f : Format) (line : List ℕ) (rest : List (List ℕ)) (answers : List (Result Item CertFault)) → format_of kind line ≡ Some f → line ≡ line_bytes (format_line f) → Shaped answers (Splits (no_lines f) rest answers) → Shaped answers (Begins kind (line ∷ rest) answers)
format_begins kind f line rest answers named is (inl refused) = inl refused
format_begins kind f line rest answers named is (inr splits) =
    let job = job_of splits.end in
    let told = spelled f splits.end splits.taken splits.fold (splits.ends).complete (splits.ends).sound in
    inr (record {
      job = job;
      format = f;
      named = subst (λ (l : List ℕ). format_of kind l ≡ Some f) is named;
      valid = (splits.ends).valid;
      tells = told.1;
      rest = splits.rest;
      number = (splits.ends).number;
      some = (splits.ends).some;
      lines_are = ap (λ (l : List ℕ). l ∷ rest) is ∙ ap (λ (ls : List (List ℕ)). line_bytes (format_line f) ∷ ls) (splits.lines_are ∙ ap (λ (ls : List CertLine). map line_bytes ls ++ splits.rest) told.0);
      behind = (splits.ends).behind ∙ ap (λ (g : Format). Ok (given.Job job) ∷ plan_items g job (splits.ends).number (first_section g) splits.rest) (fold_format (no_lines f) splits.end splits.taken splits.fold);
    })

pub lines_begin : (kind : TextKind) (lines : List (List ℕ)) → 0 < length lines → Shaped (items_of_lines kind lines) (Begins kind lines (items_of_lines kind lines))
lines_begin kind [] some = absurd (omega arith)
lines_begin kind (line ∷ []) some = inl (faults.Unended, refl)
lines_begin kind (line ∷ next ∷ more) some = by_format (format_of kind line) refl (format_is kind line)
  where
    answers : Option Format → List (Result Item CertFault)
    answers (Some f) = job_items 2 (no_lines f) (next ∷ more)
    answers None = Err (faults.BadLine 1) ∷ []

    by_format : (format : Option Format) → format_of kind line ≡ format → Each (λ (f : Format). line ≡ line_bytes (format_line f)) format → Shaped (answers format) (Begins kind (line ∷ next ∷ more) (answers format))
    by_format (Some f) named is = format_begins kind f line (next ∷ more) (job_items 2 (no_lines f) (next ∷ more)) named is (job_splits 2 (no_lines f) (next ∷ more) (omega arith))
    by_format None named is = inl (faults.BadLine 1, refl)
