-- From what the calls on tables say to what the commands answer.
use Rattle.std.proofs.Common.{◌≡◌, ◌⊎◌, inl, inr, ℕ, List, [], ◌++◌, ◌∙◌, Result, Ok, Err, sym, subst}
use Rattle.std.specs.Prelude.{codes, IfOk, OnOk, OnErr}
use Rattle.job_setup.specs.Setup.{JobData}
use Rattle.plan_lines.specs.declared.item.CertFault.{CertFault}
use Rattle.plan_lines.specs.declared.item.CertFault.TheVariants as cert
use Rattle.cert_merge.specs.Table.{TableData, TableFileData, IsTable, IsClosedTable}
use Rattle.cert_merge.specs.declared.proved.ProveFault.{ProveFault}
use Rattle.cert_merge.specs.declared.proved.ProveFault.TheVariants as prove
use Rattle.cert_merge.specs.declared.proved.ProvedTable.{ProvedTable}
use Rattle.cert_merge.specs.ProvedTable.{IsCheckedTable, IsProvedText, ProvesText}
use Rattle.cert_merge.specs.TableTexts.{table_file_of, IsTextOfTable}
use Rattle.cert_merge.specs.Merged.{IsMerged, KeepsForm, KeepsClosed}
use Rattle.cert_merge.specs.declared.settled_text.SettledText.{SettledText}
use Rattle.cert_merge.specs.SettledText.{IsSettledText}
use Rattle.cert_merge.proofs.TableChecking.{closed_is_true}
use Rattle.command_runner.specs.declared.status.Status.TheVariants as status
use Rattle.brake_io.specs.declared.shelf.StoreFault.{StoreFault}
use Rattle.brake_io.specs.Meanings.{ShelfState}
use Rattle.command_runner.specs.declared.answer.Answer.{Answer}
use Rattle.command_runner.specs.Answers.{StoredData, AnswerData, answer_data, one_text, one_stored, refusal, after_storing}
use Rattle.command_runner.specs.Delivery.{AreStored, AreStoredUpTo}
use Rattle.command_runner.specs.Ends.{StoresFirst, StoresBeginning}
use Rattle.brake_commands.specs.PlanAnswer.{IsStoredOf}
use Rattle.brake_commands.specs.declared.table_check.CheckedText.{CheckedText}
use Rattle.brake_commands.specs.declared.table_check.TableStop.{TableStop}
use Rattle.brake_commands.specs.declared.table_check.TableStop.TheVariants as stop
use Rattle.brake_commands.specs.TableCheck.{TableChecksTo, table_refused_line, AnswersTable}
use Rattle.brake_commands.specs.TableStops.{of_cert_fault, of_prove_fault, checked_file, StopsAt, IsCheckedText, IsTableRefusalAnd}
use Rattle.brake_commands.specs.TableAnswer.{IsTrueTable, told_answer, stored_table_answer, AnswersOneJob}
use Rattle.brake_commands.specs.ProveAnswer.{IsProved}
use Rattle.brake_commands.specs.MergeAnswer.{IsMergedAnswer}
use Rattle.brake_commands.specs.SettleAnswer.{IsSettledAnswer}

-- a table's text is that of a table of its job
pub table_of_text : (file : TableFileData) (text : List ℕ) → IsTextOfTable file text → IsTable file.job file.table
table_of_text file text is = record { valid = is.valid; rows = is.rows }

-- the stop at a text that is no table's, unless memory ran out
abbrev NoTable : List ℕ → CertFault → Type 0
NoTable text fault = (file : TableFileData) → IsTextOfTable file text → ⊥

-- of two, the one that there is
other_than : {A B : Type 0} → (A → ⊥) → A ⊎ B → B
other_than never (inl a) = absurd (never a)
other_than never (inr b) = b

pub text_stopped : (text : List ℕ) (fault : CertFault) → (fault ≡ cert.NoMemory) ⊎ NoTable text fault → (fault ≡ cert.NoMemory) ⊎ (table_file_of text ≡ Err fault) → StopsAt text (of_cert_fault fault)
text_stopped text (cert.BadLine line) none first = record { none = other_than (λ e. cc) none; first = other_than (λ e. cc) first }
text_stopped text cert.Unended none first = record { none = other_than (λ e. cc) none; first = other_than (λ e. cc) first }
text_stopped text cert.Trailing none first = record { none = other_than (λ e. cc) none; first = other_than (λ e. cc) first }
text_stopped text cert.BadJob none first = record { none = other_than (λ e. cc) none; first = other_than (λ e. cc) first }
text_stopped text cert.NoMemory none first = tt

-- the stop at a text of which nothing is proved
pub prove_stopped : (text : List ℕ) (fault : ProveFault) → ProvesText text (Err fault) → StopsAt text (of_prove_fault fault)
prove_stopped text (prove.Text fault) (inl memory) = text_stopped text fault (inl memory) (inl memory)
prove_stopped text (prove.Text fault) (inr refused) = text_stopped text fault (inr refused.none) (inr refused.first)
prove_stopped text (prove.Rows fault) is = is

-- the answer to a table that is accepted
pub table_accepted : (place : ℕ) (P : TableFileData → AnswerData → Type 0) (text : List ℕ) (file : TableFileData) (answer : AnswerData) → TableChecksTo text (Ok file) → P file answer → AnswersTable place P text answer
table_accepted place P text file answer checks is = (Ok file, checks, is)

-- and where its text is at hand
pub text_accepted : (place : ℕ) (P : TableFileData → AnswerData → Type 0) (text : List ℕ) (checked : CheckedText) (table : TableData) (answer : AnswerData) → checked.text.now ≡ text → IsCheckedText table checked
    → P (checked_file checked table) answer → AnswersTable place P text answer
text_accepted place P text checked table answer same checks is =
    table_accepted place P text (checked_file checked table) answer (subst (λ (t : List ℕ). IsCheckedTable t (checked_file checked table)) same checks) is

-- and to one that is refused
pub table_refused : (place : ℕ) (P : TableFileData → AnswerData → Type 0) (text : List ℕ) (why : TableStop) (answer : AnswerData) → StopsAt text why
    → IsTableRefusalAnd why (λ refusal. answer ≡ one_text status.CertRefused (table_refused_line place refusal)) → AnswersTable place P text answer
table_refused place P text (stop.Refused refusal) answer checks told = (Err refusal, checks, told)
table_refused place P text stop.NoMemory answer checks told = absurd told

-- what is told of a closed table is true
pub true_table : (job : JobData) (table : TableData) → IsTable job table → IsClosedTable job table → IsTrueTable job table
true_table job table form closed = record { form = form; closed = closed; truth = closed_is_true job table form closed }

-- the answer to a table of which only what it proves is at hand
pub proved_answers : (text : List ℕ) (proved : ProvedTable) (answer : AnswerData) → IsProvedText text proved → answer ≡ told_answer [] proved.rows proved.at_start → AnswersTable 1 IsProved text answer
proved_answers text proved answer of is =
    let file = of.file in
    let checked = of.checked in
    let tells = true_table file.job file.table (table_of_text file text checked.written) checked.closed in
    table_accepted 1 IsProved text file answer checked (tells, is ∙ (λ i. told_answer [] (of.rows i) (of.at_start i)))

-- the answer to two tables of one job
pub one_job_answers : (job other : JobData) (P : AnswerData → Type 0) (answer : AnswerData) → job ≡ other → P answer → AnswersOneJob job other P answer
one_job_answers job other P answer same is = inl (same, is)

-- and to two of different jobs
pub other_job_answers : (job other : JobData) (P : AnswerData → Type 0) (answer : AnswerData) → (job ≡ other → ⊥) → answer ≡ refusal status.CertRefused (codes "table refused job") [] → AnswersOneJob job other P answer
other_job_answers job other P answer differ is = inr (differ, is)

-- the merge of two true tables of one job is one too
pub merged_true : (job : JobData) (a b merged : TableData) → IsTrueTable job a → IsTrueTable job b → KeepsForm a b merged → KeepsClosed a b merged → IsTrueTable job merged
merged_true job a b merged first second form closed =
    true_table job merged (form job first.form second.form) (closed job first.form second.form first.closed second.closed)

-- the answer by the merge of two tables of one job
pub merged_answers : (name : List ℕ) (a b : TableFileData) (merged : TableData) (answer : AnswerData) → a.job ≡ b.job → IsTrueTable a.job a.table → IsTrueTable b.job b.table → IsMerged a.table b.table merged
    → KeepsForm a.table b.table merged → KeepsClosed a.table b.table merged → answer ≡ stored_table_answer name a.job merged → IsMergedAnswer name a b answer
merged_answers name a b merged answer same first second is_merged form closed is = record {
  merged = merged;
  is_merged = is_merged;
  tells = merged_true a.job a.table b.table merged first (subst (λ (j : JobData). IsTrueTable j b.table) (sym same) second) form closed;
  is_answer = is;
}

-- the answer by what is settled over a closed base, of which the text is at hand
pub settled_text_answers : (name : List ℕ) (low high : ℕ) (base : TableData) (job : JobData) (told : SettledText) (answer : AnswerData) → IsSettledText job base low high told → answer ≡ told_answer (one_stored name told.text) told.rows told.at_start
    → IsSettledAnswer name low high base job answer
settled_text_answers name low high base job told answer of is = record {
  settled = of.table;
  is_settled = of.settled;
  tells = true_table job of.table of.form of.closed;
  least = of.least;
  is_answer = is ∙ (λ i. told_answer (one_stored name (of.tells.text_is i)) (of.tells.rows_are i) (of.tells.start_is i));
}

-- ---- an answer of which these texts are stored, and this is left
module _ (IsIt : AnswerData → Type 0) (stored : List StoredData) (rest : AnswerData) (whole : IsIt (after_storing stored rest)) (all : stored ≡ stored ++ rest.stored) where
  pub stored_first : (r : Result Answer StoreFault) (a b : ShelfState) → IfOk r (λ answer. answer_data answer ≡ rest) → OnOk r (AreStored stored a b) → OnOk r (b.faults ≡ a.faults) → IfOk r (λ answer. StoresFirst IsIt (answer_data answer) a b)
  stored_first (Ok answer) a b is are_stored same = record {
    first = stored;
    are_stored = are_stored;
    is_one = subst (λ (left : AnswerData). IsIt (after_storing stored left)) (sym is) whole;
    faults = same;
  }
  stored_first (Err fault) a b is are_stored same = tt

  begun_in_part : (a b : ShelfState) → (b ≡ a) ⊎ AreStoredUpTo stored a b → (b ≡ a) ⊎ StoresBeginning (IsStoredOf IsIt) a b
  begun_in_part a b (inl same) = inl same
  begun_in_part a b (inr part) = inr (record { stored = stored; is_beginning = (after_storing stored rest, whole, all); are_stored = inr part })

  pub stored_begun : (r : Result Answer StoreFault) (a b : ShelfState) → OnErr r ((b ≡ a) ⊎ AreStoredUpTo stored a b) → OnErr r ((b ≡ a) ⊎ StoresBeginning (IsStoredOf IsIt) a b)
  stored_begun (Ok answer) a b on = tt
  stored_begun (Err fault) a b on = begun_in_part a b on
