-- A table's text that was read, as that of a certificate that claims nothing, or refused.
use Rattle.std.proofs.Common.{◌≡◌, ℕ, List, [], ◌∷◌, ◌++◌, map, drop, Result, Ok, Err, refl, sym, ◌∙◌, ap, subst}
use Rattle.std.specs.Result.{result_ok}
use Rattle.std.proofs.lemmas.List.{map-append}
use Rattle.std.proofs.lemmas.List.Elements.{All-nil}
use Rattle.std.proofs.lemmas.Option.{same_Some}
use Rattle.plan_lines.specs.declared.item.Item.TheVariants as given
use Rattle.cert_lines.specs.declared.format.TextKind.TheVariants.{Table}
use Rattle.plan_cert.specs.Cert.{CertData}
use Rattle.plan_cert.specs.CertItems.{rows_items}
use Rattle.plan_cert.specs.CertReading.{no_cert, cert_of}
use Rattle.plan_lines.specs.LinesFit.{IsStep}
use Rattle.plan_cert.proofs.WholeTexts.{reads_table_texts}
use Rattle.cert_check.specs.declared.fault.CheckFault.{CheckFault}
use Rattle.cert_check.specs.declared.fault.CheckFault.TheVariants.{Cert, NoMemory}
use Rattle.cert_check.specs.declared.read_cert.ReadCert.{ReadCert}
use Rattle.cert_check.specs.ReadCert.{IsGivenBy, IsRead, IsRowFirst, ReadAnswer}
use Rattle.cert_check.proofs.ReadLemmas.{rows_first}
use Rattle.cert_merge.specs.Table.{TableData, TableFileData}
use Rattle.cert_merge.specs.TableTexts.{as_table, IsTextOfTable}
use Rattle.cert_merge.specs.ReadRows.{IsReadTable, RowsRead}
use Rattle.plan_cert.proofs.Collecting.{file_is}
use Rattle.cert_check.proofs.CertTexts.{text_refused}
use Rattle.cert_merge.proofs.TableExact.{as_cert, items_give, text_of_given, no_table}

-- ---- a text that was read
module _ (text : List ℕ) (read : ReadCert) (is : IsRead Table text read) where
  abbrev t : TableData
  t = record { rows = is.cert.rows; notes = is.cert.notes }

  abbrev file : TableFileData
  file = record { job = read.job; table = t }

  written : IsTextOfTable file text
  written = text_of_given text file (ap as_table (file_is Table text read.job is.behind_job is.cert is.starts is.completes))

  -- the answers behind the job
  behind_are : is.behind_job ≡ map Ok (rows_items t.rows t.notes ++ given.End ∷ [])
  behind_are = ap (drop 1) (sym is.starts ∙ (reads_table_texts text).each read.job t.rows t.notes written)

  as_made : cert_of no_cert is.behind_job ≡ Ok (as_cert t)
  as_made = ap (cert_of no_cert) (behind_are ∙ map-append Ok (rows_items t.rows t.notes) (given.End ∷ [])) ∙ items_give file text written

  -- the certificate claims nothing
  cert_is : is.cert ≡ as_cert t
  cert_is = same_Some is.cert (as_cert t) (ap result_ok (sym is.completes ∙ as_made))

  table_given : IsGivenBy read.job (as_cert t) is.behind_job
  table_given = record {
    valid = written.valid;
    form = record {
      claim = tt;
      has_steps = refl;
      steps = All-nil (IsStep read.job);
      rows = written.rows;
    };
    completes = as_made;
    row_first = subst IsRowFirst (sym behind_are) (rows_first t.rows t.notes);
  }

  table_read : IsReadTable text read t
  table_read = record {
    written = written;
    parts = record {
      form = record { valid = written.valid; rows = written.rows };
      rows = is.has.rows;
      notes = is.kept (subst (λ (c : CertData). IsGivenBy read.job c is.behind_job) (sym cert_is) table_given);
      testing = is.testing;
    };
  }

-- ---- what the reading of a table's text comes to
pub rows_read : (text : List ℕ) (result : Result ReadCert CheckFault) → ReadAnswer Table text result → RowsRead text result
rows_read text (Ok read) is = (record { rows = is.cert.rows; notes = is.cert.notes }, table_read text read is)
rows_read text (Err (Cert fault)) is = no_table text fault (ap as_table (text_refused Table text fault is))
rows_read text (Err NoMemory) is = tt
rows_read text (Err _) is = is
