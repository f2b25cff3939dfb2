-- What `why` answers.
use Rattle.std.specs.Prelude.{◌≡◌, ℕ, List, [], ◌∷◌, ◌++◌, length, codes}
use Rattle.std.specs.List.{flat_map}
use Rattle.brake_base.specs.declared.mask.Mask.{Mask}
use Rattle.job_setup.specs.Setup.{JobData}
use Rattle.cert_lines.specs.Lines.{number, action_words, reason_words, text_line}
use Rattle.nogood_book.specs.declared.nogood.Nogood.{Nogood}
use Rattle.nogood_book.specs.Book.{IsBook}
use Rattle.command_runner.specs.declared.status.Status.TheVariants as status
use Rattle.command_runner.specs.Answers.{AnswerData, one_text}
use Rattle.brake_commands.specs.JobAnswer.{AnswersJob, job_of_files}

-- a set of bends as a number, behind a word
abbrev pub set_words : List ℕ → Mask → List (List ℕ)
set_words word set = word ∷ number set.0 ∷ []

-- `never BEND BACK STAGE folded M flat M reason REASON`: where the bends of the one set are folded
-- and those of the other flat, the reason holds against the action
unfoldable pub never_line : Nogood → List ℕ
never_line nogood = text_line (codes "never") (action_words nogood.action
    ++ set_words (codes "folded") nogood.folded ++ set_words (codes "flat") nogood.flat
    ++ codes "reason" ∷ reason_words nogood.reason)

-- `nogoods N`
unfoldable pub count_line : ℕ → List ℕ
count_line count = text_line (codes "nogoods") (number count ∷ [])

-- a line for each nogood, and last how many there are
abbrev pub why_text : List Nogood → List ℕ
why_text nogoods = flat_map never_line nogoods ++ count_line (length nogoods)

-- the answer to a job: the text of its book
abbrev pub IsWhy : JobData → AnswerData → Type 0
IsWhy job answer =
    (nogoods : List Nogood) × IsBook job nogoods
    × (answer ≡ one_text status.Done (why_text nogoods))

-- the answer to the contents of the part's file, the tools file and the machine file
abbrev pub IsWhyAnswer : List (List ℕ) → AnswerData → Type 0
IsWhyAnswer contents answer = AnswersJob IsWhy (job_of_files 0 contents) answer
