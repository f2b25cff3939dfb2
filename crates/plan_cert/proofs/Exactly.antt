-- A text gives a certificate exactly where it is that of the certificate: a text that is read to its end is the one text that its job and its items have in a format.
use Rattle.std.proofs.Common.{◌≡◌, ℕ, inl, inr, List, [], ◌∷◌, ◌++◌, length, map, Some, None, Result, Ok, Err, refl, sym, ap, subst, ◌∙◌, append_assoc, eq-eqb, eqb-true, arith}
use Rattle.std.specs.Prelude.{IfOk}
use Rattle.std.specs.List.{flat_map, enumerate_from, join_with_byte}
use Rattle.toml_fields.specs.Results.{GivesOr}
use Rattle.plan_cert.specs.declared.cert_reading.CertFile.{CertFile}
use Rattle.std.proofs.lemmas.List.{map-append}
use Rattle.std.proofs.lemmas.List.Splits.{join_with_byte-slice_split}
use Rattle.brake_base.specs.declared.stroke.Step.{Step}
use Rattle.brake_base.specs.declared.stroke.Worth.{Worth}
use Rattle.brake_base.specs.declared.stroke.Worth.TheVariants.{Cost, Blocked}
use Rattle.job_setup.specs.Setup.{JobData, bend_count, stage_count}
use Rattle.job_setup.specs.ValidJob.{IsJob}
use Rattle.cert_lines.specs.declared.format.Format.{Format}
use Rattle.cert_lines.specs.declared.format.Format.TheVariants.{Version1, Version2, Table}
use Rattle.cert_lines.specs.declared.format.TextKind.{TextKind}
use Rattle.cert_lines.specs.declared.format.TextKind.TheVariants.{Certificate}
use Rattle.plan_lines.specs.declared.item.Item.{Item}
use Rattle.plan_lines.specs.declared.item.Item.TheVariants as given
use Rattle.plan_lines.specs.declared.item.CertFault.{CertFault}
use Rattle.plan_lines.specs.declared.item.CertFault.TheVariants.{NoMemory}
use Rattle.plan_lines.specs.declared.section.Section.TheVariants as sections
use Rattle.plan_lines.specs.declared.note.Note.{Note}
use Rattle.cert_lines.specs.Lines.{CertLine, lines_of_format, format_line, line_text, lines_text}
use Rattle.cert_lines.specs.JobText.{job_lines}
use Rattle.cert_lines.specs.Formats.{format_of}
use Rattle.cert_lines.specs.LineReading.{lines_in}
use Rattle.plan_lines.specs.PlanReading.{first_section}
use Rattle.plan_lines.specs.Items.{plan_items, items_of_lines, items}
use Rattle.plan_cert.specs.Cert.{CertData}
use Rattle.plan_cert.specs.FirstVersion.{HasStepForEach}
use Rattle.plan_cert.specs.CertText.{format_lines, plan_lines, cert_text1, cert_text2}
use Rattle.plan_cert.specs.CertItems.{row_items, rows_items, cert_items, IsReadFrom}
use Rattle.plan_cert.specs.WellFormed.{IsWellFormed}
use Rattle.plan_cert.specs.ExactTexts.{IsTextIn, IsTextOf, IsExact, GivesBack}
use Rattle.plan_cert.specs.CertReading.{CertFileData, cert_file_data, no_cert, cert_of, file_of, cert_file_of, version_in}
use Rattle.cert_lines.proofs.FormatLines.{JobIn}
use Rattle.cert_lines.proofs.TextLines.{line_bytes}
use Rattle.cert_lines.proofs.WholeLines.{some_line}
use Rattle.plan_lines.proofs.JobSplits.{Shaped, Begins, lines_begin}
use Rattle.plan_cert.proofs.RowOrder.{few_rows}
use Rattle.plan_cert.proofs.PlanWritten.{oks, fold_steps, fold_rows, all_notes}
use Rattle.plan_cert.proofs.Runs.{small_of, few_steps, line_of_item, Run, ends_with, Reads, first_on, plan_reads, reads_runs}
use Rattle.plan_cert.proofs.Collecting.{ends_items, file_is}
use Rattle.plan_cert.proofs.ReadWell.{body_items, HasEnough, cert_back, cert_runs, accepted_file}
use Rattle.plan_cert.proofs.TextsGiven.{cut_lines, text_given, body_lines}

-- a text of a format that texts of this kind have, which gives a valid job and these items, and is the one that these have
pub record Whole (kind : TextKind) (text : List ℕ) (body : List Item) : Type 0 where
  pub job : JobData
  pub format : Format
  pub named : format_of kind (line_bytes (format_line format)) ≡ Some format
  pub valid : IsJob job
  pub tells : JobIn format job
  pub run : Run format job (first_section format) body
  pub text_is : text ≡ lines_text (format_lines format job (map (line_of_item (stage_count job)) body))

whole_behind : (kind : TextKind) (text : List ℕ) (all : List Item) (begins : Begins kind (lines_in text) (items kind text)) → Ok (given.Job begins.job) ∷ plan_items begins.format begins.job begins.number (first_section begins.format) begins.rest ≡ ends_with all
    → (body : List Item) × Whole kind text body
whole_behind kind text [] begins e = absurd (cc)
whole_behind kind text (first ∷ body) begins e =
    let job = begins.job in
    let f = begins.format in
    let section = first_section f in
    let behind : plan_items f job begins.number section begins.rest ≡ ends_with body = cc in
    let reads = plan_reads f job begins.number section begins.rest (small_of job begins.valid) begins.some (first_on f) in
    let runs = reads_runs f job section begins.rest body (subst (λ a. Reads f job section begins.rest a) behind reads) in
    let written = lines_text (format_lines f job (map (line_of_item (stage_count job)) body)) in
    let lines : lines_in text ≡ lines_in written =
    begins.lines_are ∙ ap (λ (ls : List (List ℕ)). line_bytes (format_line f) ∷ (map line_bytes (lines_of_format f (job_lines job)) ++ ls)) runs.0 ∙ sym (cut_lines f job section body begins.valid runs.1) in (
      body,
      record {
        job = job;
        format = f;
        named = begins.named;
        valid = begins.valid;
        tells = begins.tells;
        run = runs.1;
        text_is = sym (join_with_byte-slice_split 10 text) ∙ ap (λ (ls : List (List ℕ)). join_with_byte 10 ls) lines ∙ join_with_byte-slice_split 10 written;
      },
    )

not_refused : (fault : CertFault) (items : List Item) → Err fault ∷ [] ≡ ends_with items → ⊥
not_refused fault [] e = absurd (cc)
not_refused fault (item ∷ items) e = absurd (cc)

pub whole_text : (kind : TextKind) (text : List ℕ) (all : List Item) → items kind text ≡ ends_with all → (body : List Item) × Whole kind text body
unfolding items
whole_text kind text all e = by_shape (lines_begin kind (lines_in text) (some_line text))
  where
    by_shape : Shaped (items_of_lines kind (lines_in text)) (Begins kind (lines_in text) (items_of_lines kind (lines_in text))) → (body : List Item) × Whole kind text body
    by_shape (inl refused) = absurd (not_refused refused.0 all (sym refused.1 ∙ e))
    by_shape (inr begins) = whole_behind kind text all begins (sym begins.behind ∙ e)

-- ---- the text of a certificate in a format
record IsTextAs (format : Format) (job : JobData) (cert : CertData) (text : List ℕ) : Type 0 where
  named : format_of Certificate (line_bytes (format_line format)) ≡ Some format
  first : first_section format ≡ sections.Claim
  tells : JobIn format job
  enough : HasEnough format job cert.claim cert.steps
  is : text ≡ lines_text (format_lines format job (plan_lines job cert))

-- in version 1 a claimed cost has a step for each bend
enough_steps : (job : JobData) (claim : Worth) (steps : List Step) → HasStepForEach job claim steps → HasEnough Version1 job claim steps
enough_steps job (Cost cost) steps has = eq-eqb (length steps) (bend_count job) has
enough_steps job Blocked steps has = tt

steps_for_each : (job : JobData) (claim : Worth) (steps : List Step) → HasEnough Version1 job claim steps → HasStepForEach job claim steps
steps_for_each job (Cost cost) steps enough = eqb-true (length steps) (bend_count job) enough
steps_for_each job Blocked steps enough = tt

in_format : (version : ℕ) (job : JobData) (cert : CertData) (text : List ℕ) → IsTextIn version job cert text → (format : Format) × IsTextAs format job cert text × (version ≡ version_in text)
unfolding cert_text1 cert_text2 line_text
in_format version job cert text (inl (two, is)) = (Version2, record { named = refl; first = refl; tells = tt; enough = any cert.claim; is = is }, two ∙ sym (ap version_in is))
  where
    any : (claim : Worth) → HasEnough Version2 job claim cert.steps
    any (Cost cost) = refl
    any Blocked = tt
in_format version job cert text (inr (one, has, is)) =
    (Version1, record { named = refl; first = refl; tells = has.told; enough = enough_steps job cert.claim cert.steps has.steps; is = is }, one ∙ sym (ap version_in is))

in_version : (format : Format) (job : JobData) (cert : CertData) (text : List ℕ) → IsTextAs format job cert text → IsTextIn (version_in text) job cert text
unfolding cert_text1 cert_text2 line_text
in_version Version1 job cert text has = inr (ap version_in has.is, record { told = has.tells; steps = steps_for_each job cert.claim cert.steps has.enough }, has.is)
in_version Version2 job cert text has = inl (ap version_in has.is, has.is)
in_version Table job cert text has = absurd (let other = has.first in cc)

-- it gives the certificate's items
items_given : (format : Format) (job : JobData) (cert : CertData) (text : List ℕ) → IsJob job → IsWellFormed job cert → IsTextAs format job cert text → items Certificate text ≡ Ok (given.Job job) ∷ ends_with (body_items cert)
items_given format job cert text valid form has =
    ap (λ (t : List ℕ). items Certificate t) (has.is ∙ ap (λ (ls : List CertLine). lines_text (format_lines format job ls)) (sym (body_lines (stage_count job) cert)))
    ∙ text_given Certificate format job (body_items cert) has.named valid has.tells (subst (λ s. Run format job s (body_items cert)) (sym has.first) (cert_runs format job cert form has.enough))

-- which give the certificate
items_back : (job : JobData) (cert : CertData) → IsJob job → IsWellFormed job cert → cert_of no_cert (ends_with (body_items cert)) ≡ Ok cert
unfolding cert_of rows_items
items_back job cert valid form =
    let end = Ok given.End ∷ [] in
    let steps = map given.Step cert.steps in
    let rows = flat_map (row_items cert.notes) (enumerate_from 0 cert.rows) in
    let c1 : CertData = record no_cert { claim = cert.claim } in
    let few = few_rows job valid cert.rows (record { each = form.rows.each_row; order = form.rows.row_order }) in
    ap (λ (a : List (Result Item CertFault)). cert_of c1 (a ++ end)) (map-append Ok steps rows) ∙ ap (cert_of c1) (append_assoc (oks steps) (oks rows) end)
    ∙ fold_steps c1 cert.steps (oks rows ++ end) (omega (arith, few_steps job cert.claim cert.steps (small_of job valid) form.has_steps))
    ∙ fold_rows (record c1 { steps = cert.steps }) 0 cert.rows cert.notes end refl (omega (arith, few))
    ∙ ap (λ (ns : List Note). Ok (record cert { notes = ns })) (all_notes job cert.rows cert.notes form.rows)

pub text_gives : (text : List ℕ) → GivesBack text
text_gives text file is =
    let (format, has, version) = in_format file.version file.job file.cert text is.spelled in
    file_is Certificate text file.job (ends_with (body_items file.cert)) file.cert (items_given format file.job file.cert text is.job is.form has) (items_back file.job file.cert is.job is.form)
    ∙ ap (λ (n : ℕ). Ok (record { job = file.job; cert = file.cert; version = n })) (sym version)

pub is_read : (text : List ℕ) (file : CertFileData) → IsTextOf file text → IsReadFrom file text
unfolding cert_items
is_read text file is =
    let (format, has, version) = in_format file.version file.job file.cert text is.spelled in
    record {
      job = is.job;
      form = is.form;
      items = items_given format file.job file.cert text is.job is.form has ∙ ap (λ (answers : List (Result Item CertFault)). Ok (given.Job file.job) ∷ answers) (sym (map-append Ok (body_items file.cert) (given.End ∷ [])));
    }

-- ---- the certificate that a text is
certificate_first : (f : Format) → format_of Certificate (line_bytes (format_line f)) ≡ Some f → first_section f ≡ sections.Claim
certificate_first Version1 named = refl
certificate_first Version2 named = refl
certificate_first Table named = absurd (let none : None ≡ Some Table = named in cc)

pub cert_text : (text : List ℕ) (all : List Item) → items Certificate text ≡ ends_with all → (file : CertFileData) × IsTextOf file text
cert_text text all e =
    let (body, w) = whole_text Certificate text all e in
    let stages = stage_count w.job in
    let first = certificate_first w.format w.named in
    let well = cert_back w.format w.job body (subst (λ s. Run w.format w.job s body) first w.run) in
    let lines = ap (λ (is : List Item). map (line_of_item stages) is) well.shown ∙ body_lines stages well.cert in
    let has : IsTextAs w.format w.job well.cert text = record { named = w.named; first = first; tells = w.tells; enough = well.enough; is = w.text_is ∙ ap (λ (ls : List CertLine). lines_text (format_lines w.format w.job ls)) lines } in
    (record { job = w.job; cert = well.cert; version = version_in text }, record { job = w.valid; form = well.form; spelled = in_version w.format w.job well.cert text has })

-- a text that gives a certificate
pub text_of_given : (text : List ℕ) (file : CertFileData) → cert_file_of text ≡ Ok file → IsTextOf file text
unfolding file_of
text_of_given text file e =
    let (all, is) = accepted_file text file (items Certificate text) (ends_items Certificate text) e in
    let (found, of) = cert_text text all is in
    let gives : cert_file_of text ≡ Ok found = text_gives text found of in
    let same : found ≡ file = cc in
    subst (λ (f : CertFileData). IsTextOf f text) same of

pub read_file : (text : List ℕ) (file : CertFileData) → cert_file_of text ≡ Ok file → IsReadFrom file text
read_file text file e = is_read text file (text_of_given text file e)

-- what a reading gives
pub whole : (text : List ℕ) (read : Result CertFile CertFault) → GivesOr NoMemory cert_file_data read (cert_file_of text) → IfOk read (λ file. IsReadFrom (cert_file_data file) text)
whole text (Ok file) gives = read_file text (cert_file_data file) gives
whole text (Err fault) gives = tt

pub exact : (text : List ℕ) (read : Result CertFile CertFault) → GivesOr NoMemory cert_file_data read (cert_file_of text) → IsExact text read
exact text (Ok file) gives = text_of_given text (cert_file_data file) gives
exact text (Err fault) (inl memory) = inl memory
exact text (Err fault) (inr refused) = inr (λ file is. absurd (let gives : cert_file_of text ≡ Ok file = text_gives text file is in cc))
