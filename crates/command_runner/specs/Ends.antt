-- How the run of a command ends.
use Rattle.std.specs.Prelude.{◌≡◌, ◌⊎◌, ℕ, List, length, Result, Ok, Err}
use Rattle.std.specs.List.{AllZip}
use Rattle.brake_io.specs.Rose.{raised, Rose}
use Rattle.brake_io.specs.Meanings.{ShelfState, WhereTold, Puts}
use Rattle.command_runner.specs.declared.word_kind.WordKind.{WordKind}
use Rattle.command_runner.specs.declared.status.Status.{Status}
use Rattle.command_runner.specs.Answers.{StoredData, AnswerData, concatenation, long_refused}
use Rattle.command_runner.specs.Answers.{after_storing}
use Rattle.command_runner.specs.Fetching.{files_of, names_of, IsContent, IsFetched, OnlyFetches}
use Rattle.command_runner.specs.Fetching.{HasCause}
use Rattle.command_runner.specs.Delivery.{IsCutShort, Outside, HoldsAll, AreStored, AreStoredUpTo}
use Rattle.command_runner.specs.Delivery.{Delivers}

-- what a command answers to its words and the contents of its files, in order; it may have several
-- answers
abbrev pub Meaning : Type 1
Meaning = List (List ℕ) → List (List ℕ) → AnswerData → Type 0

-- what a command may have stored while it has no answer, to its words and the contents of its
-- files
abbrev pub Beginning : Type 1
Beginning = List (List ℕ) → List (List ℕ) → List StoredData → Type 0

-- a command that stores nothing before it has its answer
abbrev pub no_beginning : Beginning
no_beginning words contents stored = ⊥

-- the first texts of an answer are stored, this is left of it, and no count of faults rose
pub record StoresFirst (IsOne : AnswerData → Type 0) (rest : AnswerData) (before now : ShelfState)
    : Type 0 where
  pub first : List StoredData
  pub are_stored : AreStored first before now
  pub is_one : IsOne (after_storing first rest)
  pub faults : now.faults ≡ before.faults

-- all texts of a beginning are stored, or the first of them
pub record StoresBeginning (IsBeginning : List StoredData → Type 0) (before now : ShelfState)
    : Type 0 where
  pub stored : List StoredData
  pub is_beginning : IsBeginning stored
  pub are_stored : AreStored stored before now ⊎ AreStoredUpTo stored before now

-- the answer once the files are fetched, or one was too long
abbrev pub IsAnswerAfter : Meaning → List (List ℕ) → Result (List (List ℕ)) ℕ → AnswerData → Type 0
IsAnswerAfter meaning words (Ok contents) answer = meaning words contents answer
IsAnswerAfter meaning words (Err number) answer = answer ≡ long_refused number

-- an answer to words of this form over a shelf, from before the files are fetched to when they are
pub record IsAnswer (form : List WordKind) (meaning : Meaning) (words : List (List ℕ))
    (before now : ShelfState) (answer : AnswerData) : Type 0 where
  pub fetched : Result (List (List ℕ)) ℕ
  pub is_fetched : IsFetched before now (files_of form words) fetched
  pub is_answer : IsAnswerAfter meaning words fetched answer
  pub faults : now.faults ≡ before.faults

-- a beginning of what a command may store to words of this form is stored, once all files are
-- fetched
pub record IsBegun (form : List WordKind) (begins : Beginning) (words : List (List ℕ))
    (before now : ShelfState) : Type 0 where
  pub contents : List (List ℕ)
  pub between : ShelfState
  pub fetches : OnlyFetches (length (files_of form words)) before between
  pub is_fetched : IsFetched before between (files_of form words) (Ok contents)
  pub stores : StoresBeginning (begins words contents) between now

-- How a run ends: it had an answer once its files were fetched, which it stored and put; or it was
-- cut short without one, and nothing is put: it has only fetched, or it has stored a beginning.
pub data Ends (form : List WordKind) (meaning : Meaning) (begins : Beginning)
    (words : List (List ℕ)) (before now : Outside) (status : Status) : Type 0 where
  answers : (answer : AnswerData) (between : ShelfState)
      → OnlyFetches (length (files_of form words)) before.shelf between
      → IsAnswer form meaning words before.shelf between answer
      → Delivers answer (record { shelf = between; sink = before.sink }) now status
      → Ends form meaning begins words before now status
  stops : IsCutShort status → OnlyFetches (length (files_of form words)) before.shelf now.shelf
      → now.sink ≡ before.sink → Ends form meaning begins words before now status
  begun : IsCutShort status → IsBegun form begins words before.shelf now.shelf
      → now.sink ≡ before.sink → Ends form meaning begins words before now status

-- between fetching and delivering: texts of an answer may be stored, and this is left of it
pub record HasRest (form : List WordKind) (meaning : Meaning) (words : List (List ℕ))
    (before now : ShelfState) (rest : AnswerData) : Type 0 where
  pub between : ShelfState
  pub fetches : OnlyFetches (length (files_of form words)) before between
  pub stores : StoresFirst (IsAnswer form meaning words before between) rest between now

-- a count of faults rose
abbrev pub CountsFault : Outside → Outside → Type 0
CountsFault before now =
    Rose before.shelf.faults now.shelf.faults ⊎ Rose before.sink.faults now.sink.faults

-- the sink counted a fault; or, where the content is told, a file that is fetched isn't held, or a
-- call of the run was one that is to fail
abbrev pub MayFault : List WordKind → List (List ℕ) → Outside → Outside → Type 0
MayFault form words before now =
    Rose before.sink.faults now.sink.faults
    ⊎ HasCause (names_of (files_of form words)) before.shelf now.shelf

-- the whole answer is left: the run ends as it has it, its texts are stored, and its text is put
pub record Leaves (answer : AnswerData) (before now : Outside) (status : Status) : Type 0 where
  pub ends : status ≡ answer.status
  pub stores : WhereTold before.shelf now.shelf (HoldsAll answer.stored)
  pub puts : Puts before.sink now.sink (concatenation answer.texts)

-- all files were fetched, and an answer to their contents is left; the count of long files stands
pub record AnswersContents (form : List WordKind) (meaning : Meaning) (words : List (List ℕ))
    (before now : Outside) (status : Status) : Type 0 where
  pub contents : List (List ℕ)
  pub are_fetched : AllZip (IsContent before.shelf) (files_of form words) contents
  pub longs : now.shelf.longs ≡ before.shelf.longs
  pub answer : AnswerData
  pub is_answer : meaning words contents answer
  pub leaves : Leaves answer before now status

-- a file was too long, and its refusal is left; the count of long files rose
pub record RefusesLong (form : List WordKind) (words : List (List ℕ)) (before now : Outside)
    (status : Status) : Type 0 where
  pub number : ℕ
  pub is_fetched : IsFetched before.shelf now.shelf (files_of form words) (Err number)
  pub longs : now.shelf.longs ≡ raised before.shelf.longs
  pub leaves : Leaves (long_refused number) before now status

-- What a run comes to, as it shows from outside: it was cut short, or it left its answer to the
-- contents of all files, or the refusal of one that was too long. So a file is refused for its
-- length only where the count of long files rose, and where that rose nothing else is answered.
pub data IsOutcome (form : List WordKind) (meaning : Meaning) (words : List (List ℕ))
    (before now : Outside) (status : Status) : Type 0 where
  cut_short : IsCutShort status → IsOutcome form meaning words before now status
  answered : AnswersContents form meaning words before now status
      → IsOutcome form meaning words before now status
  refused_long : RefusesLong form words before now status
      → IsOutcome form meaning words before now status
