-- A command that reads its first file in pieces.
use Rattle.std.specs.Prelude.{ℕ, List, ◌∷◌, ◌++◌, Ok}
use Rattle.brake_io.specs.Meanings.{ShelfState}
use Rattle.brake_io.specs.Pieces.{WindowState, HasPassed, MayFollow}
use Rattle.command_runner.specs.Answers.{AnswerData}
use Rattle.command_runner.specs.Fetching.{NamedFile, IsFetched}

-- The answer is one to a text and these contents: what was passed of the text, what is at hand of
-- it, and whatever comes behind.
pub record AnswersText (IsOne : List (List ℕ) → AnswerData → Type 0) (before now : WindowState)
    (others : List (List ℕ)) (answer : AnswerData) : Type 0 where
  pub passed : List ℕ
  pub has_passed : HasPassed before now passed
  pub is_one : (last : List ℕ) → MayFollow now last
      → IsOne ((passed ++ now.unread ++ last) ∷ others) answer

-- the answer is one to the contents of these files, all of which were fetched
pub record AnswersFetched (IsOne : List (List ℕ) → AnswerData → Type 0) (before now : ShelfState)
    (files : List NamedFile) (answer : AnswerData) : Type 0 where
  pub contents : List (List ℕ)
  pub is_fetched : IsFetched before now files (Ok contents)
  pub is_one : IsOne contents answer
