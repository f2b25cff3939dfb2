-- How a run of `brake` ends.
use Rattle.std.specs.Prelude.{◌≡◌, ◌⊎◌, ⊤, ℕ, List, [], Option, Some, None, IfSome, IsSomeAnd}
use Rattle.std.specs.Prelude.{Result, Ok, Err, option_map}
use Rattle.brake_io.specs.Meanings.{Names}
use Rattle.command_runner.specs.declared.word_kind.WordKind.{WordKind}
use Rattle.command_runner.specs.declared.status.Status.{Status}
use Rattle.command_runner.specs.Answers.{AnswerData, long_refused}
use Rattle.command_runner.specs.Fetching.{files_of, fetched_over}
use Rattle.command_runner.specs.Delivery.{IsCutShort, Outside}
use Rattle.command_runner.specs.Ends.{Meaning, Beginning, no_beginning, Ends, Leaves, IsOutcome}
use Rattle.brake_commands.specs.declared.command.Command.{Command}
use Rattle.brake_commands.specs.declared.command.Command.TheVariants.{Blank}
use Rattle.brake_commands.specs.Forms.{kinds_of, form_of, command_of}
use Rattle.brake_commands.specs.BlankAnswer.{blank_answer}
use Rattle.brake_commands.specs.Commands.{meaning_of, begins_of, usage}

-- the kinds of the words of a command, if one is run
abbrev pub form_for : Option Command → List WordKind
form_for (Some command) = kinds_of (form_of command)
form_for None = []

-- what is answered to the words of a command, or where none is run
abbrev pub meaning_for : Option Command → Meaning
meaning_for (Some command) words contents answer = meaning_of command words contents answer
meaning_for None words contents answer = answer ≡ usage

-- what may be stored while there is no answer to them
abbrev pub begins_for : Option Command → Beginning
begins_for (Some command) words contents stored = begins_of command words contents stored
begins_for None words contents stored = no_beginning words contents stored

-- a run over the outside ends so
abbrev pub RunEnds : List (List ℕ) → Outside → Outside → Status → Type 0
RunEnds words before now status =
    Ends (form_for (command_of words)) (meaning_for (command_of words))
    (begins_for (command_of words)) words before now status

-- and comes to this, as it shows from outside
abbrev pub RunOutcome : List (List ℕ) → Outside → Outside → Status → Type 0
RunOutcome words before now status =
    IsOutcome (form_for (command_of words)) (meaning_for (command_of words)) words before now status

-- the answer of `blank` once its files are fetched, or one was too long
abbrev pub blank_after : Result (List (List ℕ)) ℕ → AnswerData
blank_after (Ok contents) = blank_answer contents
blank_after (Err number) = long_refused number

-- the one answer of `blank` over these names; there is none where a file isn't held
abbrev pub told_blank : Command → Names → List (List ℕ) → Option AnswerData
told_blank command names words =
    option_map blank_after (fetched_over names (files_of (kinds_of (form_of command)) words))

-- where the shelf tells what it holds, that determines what `blank` leaves, unless it is cut short
abbrev pub TellsBlankBy : Option Command → List (List ℕ) → Outside → Outside → Status → Type 0
TellsBlankBy (Some (Blank part tools)) words before now status =
    IfSome before.shelf.content (λ content. IsCutShort status
    ⊎ IsSomeAnd (told_blank (Blank part tools) content.held words) (λ answer.
    Leaves answer before now status))
TellsBlankBy _ words before now status = ⊤

abbrev pub TellsBlank : List (List ℕ) → Outside → Outside → Status → Type 0
TellsBlank words before now status = TellsBlankBy (command_of words) words before now status
