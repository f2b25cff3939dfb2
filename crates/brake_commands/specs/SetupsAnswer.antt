-- What `setups` answers.
use Rattle.std.specs.Prelude.{◌≡◌, ◌≢◌, ℕ, ℤ, List, [], ◌∷◌, ◌++◌, codes, AllPairs}
use Rattle.std.specs.Prelude.{Option, Some, None, Ok}
use Rattle.std.specs.List.{AllZip, flat_map, enumerate_from}
use Rattle.brake_base.specs.declared.stroke.Worth.TheVariants.{Cost}
use Rattle.allowance.specs.AllowTable.{half_deduction_in}
use Rattle.unfolder.specs.Blank.{BlankData, blank_of_part}
use Rattle.unfolder.specs.Fold.{FoldsBack}
use Rattle.setup_sheet.specs.Sheets.{blank_text, setup_text}
use Rattle.setup_sheet.specs.OrderSheet.{order_text}
use Rattle.cert_lines.specs.Lines.{number, worth_word, text_line}
use Rattle.plan_cert.specs.CertText.{cert_text2}
use Rattle.job_setup.specs.declared.fault.JobFault.{JobFault}
use Rattle.setup_choice.specs.declared.fault.SetupFault.TheVariants.{Job}
use Rattle.setup_choice.specs.Best.{IsBest}
use Rattle.command_runner.specs.declared.status.Status.{Status}
use Rattle.command_runner.specs.declared.status.Status.TheVariants as status
use Rattle.command_runner.specs.Answers.{StoredData, AnswerData}
use Rattle.brake_commands.specs.PlanAnswer.{no_plan_line}
use Rattle.brake_commands.specs.SetupList.{JobFilesData, SetupList, setups_refused, list_of_files}
use Rattle.brake_commands.specs.SetupList.{IsFirstRefused, list_refused, AnswersList}
use Rattle.brake_commands.specs.Attempts.{PlannedData, AttemptData, IsAttempt, tried_all}
use Rattle.brake_commands.specs.Attempts.{IsPlannedAt}
use Rattle.brake_commands.specs.Pairs.{HasNoPair, IsCheapestPair}

-- NAME.I: the name, a full stop and a number
abbrev pub numbered_name : List ℕ → ℕ → List ℕ
numbered_name name place = name ++ codes "." ++ number place

-- what is stored of a tried setup, with its place in the list: the text of its certificate, if it
-- has one
abbrev pub stored_at : List ℕ → ℕ → Option PlannedData → List StoredData
stored_at name place None = []
stored_at name place (Some planned) =
    record { name = numbered_name name place; text = cert_text2 planned.job planned.cert } ∷ []

abbrev pub stored_of : List ℕ → ℕ × AttemptData → List StoredData
stored_of name placed = stored_at name placed.0 placed.1.planned

-- what is stored of all, in order
abbrev pub all_stored : List ℕ → List AttemptData → List StoredData
all_stored name attempts = flat_map (stored_of name) (enumerate_from 0 attempts)

-- the cost of a tried setup, `none` where it has no plan, `short` where it has no choice of pieces
abbrev pub cost_word : Option PlannedData → List ℕ
cost_word None = codes "short"
cost_word (Some planned) = worth_word planned.cert.claim

-- `try I NAME C`
unfoldable pub try_line : ℕ × AttemptData → List ℕ
try_line placed = text_line (codes "try")
    (number placed.0 ∷ placed.1.name ∷ cost_word placed.1.planned ∷ [])

-- a line for each setup, in order
abbrev pub try_lines : List AttemptData → List ℕ
try_lines attempts = flat_map try_line (enumerate_from 0 attempts)

-- `best I`
unfoldable pub best_line : ℕ → List ℕ
best_line place = text_line (codes "best") (number place ∷ [])

-- what ends the text of the best setup: its line, and the sheets of its plan
abbrev pub best_texts : ℕ → PlannedData → List (List ℕ)
best_texts place planned = best_line place ∷ setup_text planned.job
    ∷ order_text planned.job planned.cert.steps ∷ []

-- How it ends: with the first setup of least cost, than whose plan no other pair costs less, and the
-- sheets of that plan; or with there being no pair.
pub data IsEnding (list : SetupList) (attempts : List AttemptData)
    : Status → List (List ℕ) → Type 0 where
  best : (place : ℕ) (planned : PlannedData) (cost : ℕ) → IsBest (tried_all attempts) (Some place)
      → IsPlannedAt attempts place planned → planned.cert.claim ≡ Cost cost
      → IsCheapestPair list place planned.job planned.cert.steps cost
      → IsEnding list attempts status.Done (best_texts place planned)
  no_pair : HasNoPair list → IsEnding list attempts status.NoPlan (no_plan_line ∷ [])

-- the blank of the part, which folded at every bend is the designed part
pub record IsBlankIn (files : JobFilesData) (blank : BlankData) : Type 0 where
  pub q : ℤ
  pub deduction : half_deduction_in files.tools.allow files.part ≡ Ok q
  pub value : blank_of_part files.part q ≡ Ok blank
  pub folds_back : FoldsBack files.part q blank

-- the text is the sheet of this blank
abbrev pub IsBlankSheetIn : JobFilesData → List ℕ → Type 0
IsBlankSheetIn files text =
    (blank : BlankData) × IsBlankIn files blank × (text ≡ blank_text files.part blank)

-- How the answer to tried setups ends: with the first of least cost, or with none having a plan.
pub data EndsTried (attempts : List AttemptData) : Status → List (List ℕ) → Type 0 where
  with_best : (place : ℕ) (planned : PlannedData) → IsBest (tried_all attempts) (Some place)
      → IsPlannedAt attempts place planned
      → EndsTried attempts status.Done (best_texts place planned)
  without : IsBest (tried_all attempts) None
      → EndsTried attempts status.NoPlan (no_plan_line ∷ [])

-- what is left to put once setups are tried, of which this is kept, with this as the first sheet
pub record AnswersTried (sheet : List ℕ) (kept : List AttemptData) (answer : AnswerData)
    : Type 0 where
  pub ending : List (List ℕ)
  pub ends : EndsTried kept answer.status ending
  pub stores : answer.stored ≡ []
  pub texts : answer.texts ≡ sheet ∷ try_lines kept ∷ ending

-- the answer once all setups of the list are tried: a certificate is stored for each that has a
-- choice of pieces
pub record IsTriedAnswer (name : List ℕ) (list : SetupList) (answer : AnswerData) : Type 0 where
  pub sheet : List ℕ
  pub is_sheet : IsBlankSheetIn list.files sheet
  pub attempts : List AttemptData
  pub tries : AllZip (IsAttempt list.files) list.setups attempts
  pub ending : List (List ℕ)
  pub ends : IsEnding list attempts answer.status ending
  pub stores : answer.stored ≡ all_stored name attempts
  pub different : AllPairs (λ one other. one.name ≢ other.name) answer.stored
  pub texts : answer.texts ≡ sheet ∷ try_lines attempts ∷ ending

-- the answer to a list: the first refusal of a setup, or that by all tried setups
pub data IsListAnswer (name : List ℕ) (list : SetupList) (answer : AnswerData) : Type 0 where
  setup_refused : (place : ℕ) (fault : JobFault) → IsFirstRefused list place fault
      → answer ≡ list_refused (setups_refused (Job place fault)) → IsListAnswer name list answer
  tried : IsTriedAnswer name list answer → IsListAnswer name list answer

-- the answer to the contents of the part's file, the tools file, the machine file and the setups
-- file
abbrev pub IsSetupsAnswer : List ℕ → List (List ℕ) → AnswerData → Type 0
IsSetupsAnswer name contents answer =
    AnswersList (IsListAnswer name) (list_of_files contents) answer
