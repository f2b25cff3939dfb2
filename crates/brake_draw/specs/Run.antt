-- How a run of `brake_draw` ends.
use Rattle.std.specs.Prelude.{◌≡◌, ℕ, List, [], Bool, true, false, not, ◌&&◌}
use Rattle.command_runner.specs.declared.word_kind.WordKind.{WordKind}
use Rattle.command_runner.specs.declared.status.Status.{Status}
use Rattle.command_runner.specs.Kinds.{is_form}
use Rattle.command_runner.specs.Delivery.{Outside}
use Rattle.command_runner.specs.Ends.{Meaning, Ends, IsOutcome, no_beginning}
use Rattle.brake_draw.specs.Say.{is_saying, answer_at_once}
use Rattle.brake_draw.specs.Draw.{draw_form, IsDrawAnswer}

-- the words are `CERT OUT`; a first word `say` is never CERT
unfoldable pub is_drawing : List (List ℕ) → Bool
is_drawing words = not (is_saying words) && is_form draw_form words

-- the kinds of the words, where they are `CERT OUT`; none of other words
abbrev pub form_by : Bool → List WordKind
form_by true = draw_form
form_by false = []

abbrev pub form_for : List (List ℕ) → List WordKind
form_for words = form_by (is_drawing words)

-- what is answered to words, where they are `CERT OUT` or not
abbrev pub meaning_by : Bool → Meaning
meaning_by true words contents answer = IsDrawAnswer words contents answer
meaning_by false words contents answer = answer ≡ answer_at_once words

abbrev pub meaning_for : List (List ℕ) → Meaning
meaning_for words = meaning_by (is_drawing words)

-- a run over the outside ends so
abbrev pub RunEnds : List (List ℕ) → Outside → Outside → Status → Type 0
RunEnds words before now status =
    Ends (form_for words) (meaning_for words) no_beginning words before now status

-- and comes to this, as it shows from outside
abbrev pub RunOutcome : List (List ℕ) → Outside → Outside → Status → Type 0
RunOutcome words before now status =
    IsOutcome (form_for words) (meaning_for words) words before now status

-- a run of words that fetch nothing ends so
abbrev pub EndsAtOnce : List (List ℕ) → Outside → Outside → Status → Type 0
EndsAtOnce words before now status =
    Ends [] (meaning_by false) no_beginning words before now status
