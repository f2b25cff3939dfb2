-- The answers of a text end with its end exactly where it is the text of a certificate, or of a table.
use Rattle.std.proofs.Common.{◌≡◌, ℕ, List, [], ◌∷◌, map, Some, None, Result, Ok, refl, sym, ap, subst, ◌∙◌}
use Rattle.std.proofs.lemmas.List.{map-append}
use Rattle.job_setup.specs.Setup.{JobData, stage_count}
use Rattle.cert_lines.specs.declared.format.Format.{Format}
use Rattle.cert_lines.specs.declared.format.Format.TheVariants.{Version1, Version2, Table}
use Rattle.cert_lines.specs.declared.format.TextKind.{TextKind}
use Rattle.cert_lines.specs.declared.format.TextKind.TheVariants.{Certificate, Table as TableKind}
use Rattle.plan_lines.specs.declared.item.Item.{Item}
use Rattle.plan_lines.specs.declared.item.Item.TheVariants as given
use Rattle.plan_lines.specs.declared.item.CertFault.{CertFault}
use Rattle.plan_lines.specs.declared.section.Section.TheVariants as sections
use Rattle.cert_lines.specs.declared.row_head.RowHead.{RowHead}
use Rattle.plan_lines.specs.declared.note.Note.{Note}
use Rattle.cert_lines.specs.Lines.{CertLine, format_line, lines_text}
use Rattle.plan_cert.specs.CertText.{rows_lines, format_lines, table_text}
use Rattle.plan_cert.specs.ExactTexts.{IsTableText}
use Rattle.plan_cert.specs.CertItems.{rows_items, table_items}
use Rattle.plan_cert.specs.ExactItems.{IsReadToEnd, ReadsCertTexts, ReadsTableTexts}
use Rattle.cert_lines.specs.Formats.{format_of}
use Rattle.plan_lines.specs.PlanReading.{first_section}
use Rattle.plan_lines.specs.Items.{items}
use Rattle.plan_cert.proofs.ReadWell.{rows_all, rows_back}
use Rattle.cert_lines.proofs.TextLines.{line_bytes}
use Rattle.plan_cert.proofs.Runs.{line_of_item, Run, ends_with}
use Rattle.plan_cert.proofs.TextsGiven.{text_given, rows_shown}
use Rattle.plan_cert.proofs.Exactly.{whole_text, is_read, cert_text}

-- items up to the end, as they are collected
to_end : (kind : TextKind) (text : List ℕ) (end : IsReadToEnd kind text) → items kind text ≡ ends_with end.0
to_end kind text end = end.1 ∙ map-append Ok end.0 (given.End ∷ [])

-- exactly a certificate's text is read to its end
pub reads_cert_texts : (text : List ℕ) → ReadsCertTexts text
reads_cert_texts text = record { each = λ file is. (is_read text file is).items; only = λ end. cert_text text end.0 (to_end Certificate text end) }

ends_of_table : (job : JobData) (heads : List RowHead) (notes : List Note) (text : List ℕ) → IsTableText job heads notes text → items TableKind text ≡ map Ok (table_items job heads notes)
unfolding table_text
ends_of_table job heads notes text is =
    ap (λ (t : List ℕ). items TableKind t) (is.spelled ∙ ap (λ (ls : List CertLine). lines_text (format_lines Table job ls)) (sym (rows_shown (stage_count job) heads notes)))
    ∙ text_given TableKind Table job (rows_items heads notes) refl is.valid tt (rows_all Table job heads notes sections.Rows is.rows refl (λ key. refl))
    ∙ ap (λ (a : List (Result Item CertFault)). Ok (given.Job job) ∷ a) (sym (map-append Ok (rows_items heads notes) (given.End ∷ [])))

table_named : (f : Format) → format_of TableKind (line_bytes (format_line f)) ≡ Some f → f ≡ Table
table_named Version1 named = absurd (let none : None ≡ Some Version1 = named in cc)
table_named Version2 named = absurd (let none : None ≡ Some Version2 = named in cc)
table_named Table named = refl

table_of_ends : (text : List ℕ) → IsReadToEnd TableKind text → (job : JobData) × (heads : List RowHead) × (notes : List Note) × IsTableText job heads notes text
unfolding table_text
table_of_ends text end =
    let (body, w) = whole_text TableKind text end.0 (to_end TableKind text end) in
    let table = table_named w.format w.named in
    let rows = rows_back Table w.job body (subst (λ f. Run f w.job (first_section f) body) table w.run) in
    let lines : text ≡ lines_text (format_lines Table w.job (rows_lines (stage_count w.job) rows.rows rows.notes)) =
    w.text_is ∙ ap (λ (f : Format). lines_text (format_lines f w.job (map (line_of_item (stage_count w.job)) body))) table
    ∙ ap (λ (ls : List CertLine). lines_text (format_lines Table w.job ls)) (ap (λ (is : List Item). map (line_of_item (stage_count w.job)) is) rows.shown ∙ rows_shown (stage_count w.job) rows.rows rows.notes) in
    (w.job, rows.rows, rows.notes, record { valid = w.valid; rows = rows.are; spelled = lines })

-- exactly a table's text is read to its end
pub reads_table_texts : (text : List ℕ) → ReadsTableTexts text
reads_table_texts text = record { each = λ job heads notes is. ends_of_table job heads notes text is; only = table_of_ends text }
