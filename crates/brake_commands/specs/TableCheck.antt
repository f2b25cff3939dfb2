-- What the check of a table file comes to, and how a refusal of it is told.
use Rattle.std.specs.Prelude.{◌≡◌, ℕ, List, [], ◌∷◌, codes, Result, Ok, Err}
use Rattle.cert_lines.specs.Lines.{number, text_line}
use Rattle.cert_check.specs.FaultWords.{cert_fault_words}
use Rattle.cert_merge.specs.declared.proved.TableFault.TheVariants.{BadReason, NotClosed}
use Rattle.cert_merge.specs.Table.{TableFileData}
use Rattle.cert_merge.specs.ProvedTable.{IsCheckedTable, IsNoTable, IsOpenTable}
use Rattle.command_runner.specs.declared.status.Status.TheVariants as status
use Rattle.command_runner.specs.Answers.{AnswerData, one_text}
use Rattle.brake_commands.specs.declared.table_check.TableRefusal.{TableRefusal}
use Rattle.brake_commands.specs.declared.table_check.TableRefusal.TheVariants.{Text, Rows}

-- what the check of a table's text comes to: its job and its table, or the first refusal
abbrev pub TableChecksTo : List ℕ → Result TableFileData TableRefusal → Type 0
TableChecksTo text (Ok file) = IsCheckedTable text file
TableChecksTo text (Err (Text fault)) = IsNoTable text fault
TableChecksTo text (Err (Rows fault)) = IsOpenTable text fault

-- the words by which a refusal is told: its number, and then what it names
abbrev pub table_refusal_words : TableRefusal → List (List ℕ)
table_refusal_words (Text fault) = number 1 ∷ cert_fault_words fault
table_refusal_words (Rows (BadReason row action)) = number 2 ∷ number row ∷ number action ∷ []
table_refusal_words (Rows (NotClosed row action)) = number 3 ∷ number row ∷ number action ∷ []

-- `table refused K ..`: the table of the file word of this number, counted from 1, is refused
unfoldable pub table_refused_line : ℕ → TableRefusal → List ℕ
table_refused_line place refusal =
    text_line (codes "table refused") (number place ∷ table_refusal_words refusal)

-- the answer to a checked table of the file word of this number: one to its job and its rows, or
-- its refusal
abbrev pub AnswersChecked :
    ℕ → (TableFileData → AnswerData → Type 0) → Result TableFileData TableRefusal → AnswerData
    → Type 0
AnswersChecked place IsAnswer (Ok file) answer = IsAnswer file answer
AnswersChecked place IsAnswer (Err refusal) answer =
    answer ≡ one_text status.CertRefused (table_refused_line place refusal)

-- the answer to the text of such a table, which is checked first
abbrev pub AnswersTable :
    ℕ → (TableFileData → AnswerData → Type 0) → List ℕ → AnswerData → Type 0
AnswersTable place IsAnswer text answer =
    (checked : Result TableFileData TableRefusal) × TableChecksTo text checked
    × AnswersChecked place IsAnswer checked answer
