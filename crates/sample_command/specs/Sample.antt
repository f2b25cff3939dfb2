-- A command that stores a text, and may answer in two ways.
use Rattle.std.specs.Prelude.{◌≡◌, ◌⊎◌, ℕ, List, [], ◌∷◌, codes}
use Rattle.command_runner.specs.declared.word_kind.WordKind.{WordKind}
use Rattle.command_runner.specs.declared.word_kind.WordKind.TheVariants.{Literal, Input, Output}
use Rattle.command_runner.specs.declared.word_kind.Keyword.TheVariants.{Plan}
use Rattle.command_runner.specs.declared.status.Status.TheVariants.{Done}
use Rattle.command_runner.specs.Answers.{AnswerData}
use Rattle.command_runner.specs.Fetching.{word_at}
use Rattle.command_runner.specs.Ends.{Meaning}

-- `plan PART OUT`
abbrev pub sample_form : List WordKind
sample_form = Literal Plan ∷ Input ∷ Output ∷ []

-- this mark is stored under OUT, and is put before the content of the file
abbrev pub marked : List ℕ → List (List ℕ) → List (List ℕ) → AnswerData
marked mark words contents = record {
  stored = record { name = word_at words 2; text = mark } ∷ [];
  status = Done;
  texts = mark ∷ word_at contents 0 ∷ [];
}

-- the mark is `one` or `two`
abbrev pub IsSampleAnswer : Meaning
IsSampleAnswer words contents answer =
    (answer ≡ marked (codes "one\n") words contents)
    ⊎ (answer ≡ marked (codes "two\n") words contents)
