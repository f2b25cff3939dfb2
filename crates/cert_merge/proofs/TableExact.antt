-- A text gives a table exactly where it is that of the table.
use Rattle.std.proofs.Common.{◌≡◌, ℕ, ◌+◌, ◌^◌, ◌≤◌, List, [], ◌∷◌, ◌++◌, length, Result, Ok, Err, refl, sym, ap, subst, ◌∙◌, arith}
use Rattle.std.specs.List.{flat_map, enumerate_from}
use Rattle.std.specs.Result.{result_ok}
use Rattle.std.proofs.lemmas.List.{map-append}
use Rattle.std.proofs.lemmas.Option.{same_Some}
use Rattle.plan_lines.specs.declared.note.Note.{Note}
use Rattle.cert_lines.specs.declared.format.TextKind.TheVariants.{Table}
use Rattle.plan_lines.specs.declared.item.Item.{Item}
use Rattle.plan_lines.specs.declared.item.Item.TheVariants as given
use Rattle.plan_lines.specs.declared.item.CertFault.{CertFault}
use Rattle.plan_cert.specs.Cert.{CertData}
use Rattle.plan_lines.specs.Items.{items}
use Rattle.plan_cert.specs.CertItems.{rows_items}
use Rattle.plan_cert.specs.CertReading.{CertFileData, no_cert, cert_of, file_of}
use Rattle.plan_cert.specs.ExactItems.{IsReadToEnd}
use Rattle.plan_cert.proofs.NoteOrder.{ascend}
use Rattle.plan_cert.proofs.RowOrder.{few_rows}
use Rattle.plan_cert.proofs.Collecting.{ends_items, file_is}
use Rattle.plan_cert.proofs.ReadWell.{accepted_file}
use Rattle.plan_cert.proofs.PlanWritten.{oks, fold_rows, own_notes, all_own}
use Rattle.plan_cert.proofs.WholeTexts.{reads_table_texts}
use Rattle.cert_merge.specs.Table.{TableData, TableFileData}
use Rattle.cert_merge.specs.TableTexts.{table_file, as_table, table_file_of, IsTextOfTable, GivesBack}
use Rattle.cert_merge.specs.ProvedTable.{IsNoTable}

end_only : (c : CertData) → cert_of c (Ok given.End ∷ []) ≡ Ok c
unfolding cert_of
end_only c = refl

-- a table as a certificate that claims nothing
abbrev pub as_cert : TableData → CertData
as_cert t = record no_cert { rows = t.rows; notes = t.notes }

-- the items of a table, behind its job, give its rows and notes
pub items_give : (file : TableFileData) (text : List ℕ) → IsTextOfTable file text → cert_of no_cert (oks (rows_items file.table.rows file.table.notes) ++ Ok given.End ∷ []) ≡ Ok (as_cert file.table)
unfolding rows_items
items_give file text is =
    let rows = file.table.rows in
    let notes = file.table.notes in
    let end : List (Result Item CertFault) = Ok given.End ∷ [] in
    let few : 0 + length rows ≤ 2 ^ 20 = let most = few_rows file.job is.valid rows (record { each = is.rows.each_row; order = is.rows.row_order }) in omega (arith, most) in
    let all : flat_map (own_notes notes) (enumerate_from 0 rows) ≡ notes =
    all_own 0 rows notes (ascend 0 notes (λ d some. omega arith) is.rows.note_order) (λ k d within. let less = (is.rows.each_note k d within).row in omega (arith, less)) in
    fold_rows no_cert 0 rows notes end refl few ∙ end_only (record no_cert { rows = [] ++ rows; notes = [] ++ flat_map (own_notes notes) (enumerate_from 0 rows) })
    ∙ ap (λ (ns : List Note). Ok (record no_cert { rows = rows; notes = ns })) all

-- a text that is a table's gives this table
pub text_gives : (text : List ℕ) → GivesBack text
text_gives text file is =
    let rows = file.table.rows in
    let notes = file.table.notes in
    let behind : List (Result Item CertFault) = oks (rows_items rows notes) ++ Ok given.End ∷ [] in
    let first : items Table text ≡ Ok (given.Job file.job) ∷ behind =
    (reads_table_texts text).each file.job rows notes is ∙ ap (λ (a : List (Result Item CertFault)). Ok (given.Job file.job) ∷ a) (map-append Ok (rows_items rows notes) (given.End ∷ [])) in
    ap as_table (file_is Table text file.job behind (as_cert file.table) first (items_give file text is))

-- what gives a file is read to its end
to_end : (text : List ℕ) (read : CertFileData) → file_of Table text ≡ Ok read → IsReadToEnd Table text
unfolding file_of
to_end text read is =
    let its = accepted_file text read (items Table text) (ends_items Table text) is in
    (its.0, its.1 ∙ sym (map-append Ok its.0 (given.End ∷ [])))

-- what a text gives is the table of which it is the text
pub text_of_given : (text : List ℕ) (file : TableFileData) → table_file_of text ≡ Ok file → IsTextOfTable file text
text_of_given text file e = by_file (file_of Table text) refl e
  where
    by_file : (r : Result CertFileData CertFault) → file_of Table text ≡ r → as_table r ≡ Ok file → IsTextOfTable file text
    by_file (Err fault) is e = absurd (cc)
    by_file (Ok read) is e =
        let its = (reads_table_texts text).only (to_end text read is) in
        let other : TableFileData = record { job = its.0; table = record { rows = its.1; notes = its.2 } } in
        let same : table_file read ≡ other = same_Some (table_file read) other (ap result_ok (sym (ap as_table is) ∙ text_gives text other its.3)) in
        let here : file ≡ table_file read = same_Some file (table_file read) (ap result_ok (sym e)) in
        subst (λ (f : TableFileData). IsTextOfTable f text) (sym (here ∙ same)) its.3

ok_not_err : (r : Result TableFileData CertFault) (file : TableFileData) (fault : CertFault) → r ≡ Ok file → r ≡ Err fault → ⊥
ok_not_err r file fault one two = absurd (cc)

-- a text that is refused is no table's
pub no_table : (text : List ℕ) (fault : CertFault) → table_file_of text ≡ Err fault → IsNoTable text fault
no_table text fault refused = record { none = λ file is. ok_not_err (table_file_of text) file fault (text_gives text file is) refused; first = refused }
