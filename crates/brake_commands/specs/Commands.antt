-- What the commands answer.
use Rattle.std.specs.Prelude.{◌≡◌, ℕ, List, [], ◌∷◌, ◌++◌, codes, Bool, true, false, Some}
use Rattle.std.specs.Prelude.{None}
use Rattle.std.specs.List.{flat_map}
use Rattle.command_runner.specs.declared.status.Status.TheVariants as status
use Rattle.command_runner.specs.Answers.{AnswerData, one_text}
use Rattle.command_runner.specs.Fetching.{word_at}
use Rattle.command_runner.specs.Ends.{Meaning, Beginning}
use Rattle.command_runner.specs.declared.word_kind.WordKind.{WordKind}
use Rattle.brake_commands.specs.declared.command.Command.{Command}
use Rattle.brake_commands.specs.declared.command.Command.TheVariants.{Blank, Plan, Check, CheckFiles}
use Rattle.brake_commands.specs.declared.command.Command.TheVariants.{Trial, Why, Setups, Settle, Merge}
use Rattle.brake_commands.specs.declared.command.Command.TheVariants.{Prove}
use Rattle.brake_commands.specs.declared.in_pieces.PieceCommand.{PieceCommand}
use Rattle.brake_commands.specs.declared.in_pieces.PieceCommand.TheVariants as piece
use Rattle.brake_commands.specs.declared.form.Form.TheVariants as form
use Rattle.brake_commands.specs.Forms.{kinds_of}
use Rattle.brake_commands.specs.BlankAnswer.{blank_answer}
use Rattle.brake_commands.specs.PlanAnswer.{IsStoredOf, IsPlanAnswer}
use Rattle.check_command.specs.CheckAnswer.{IsCheckAnswer}
use Rattle.brake_commands.specs.CheckAnswer.{IsCheckFilesAnswer}
use Rattle.brake_commands.specs.TrialAnswer.{IsTrialAnswer}
use Rattle.brake_commands.specs.WhyAnswer.{IsWhyAnswer}
use Rattle.brake_commands.specs.SetupsAnswer.{IsSetupsAnswer}
use Rattle.brake_commands.specs.Begun.{IsSetupsBeginning}
use Rattle.brake_commands.specs.SettleAnswer.{IsSettleAnswer, IsSettleOverAnswer}
use Rattle.brake_commands.specs.MergeAnswer.{IsMergeAnswer}
use Rattle.brake_commands.specs.ProveAnswer.{IsProveAnswer}

-- the lines of the usage text: the forms of the words
abbrev pub usage_lines : List (List ℕ)
usage_lines =
    codes "usage: brake blank PART TOOLS" ∷
    codes "usage: brake plan PART TOOLS MACHINE CERT [--budget N]" ∷
    codes "usage: brake check CERT [PART TOOLS MACHINE]" ∷
    codes "usage: brake trial N" ∷
    codes "usage: brake why PART TOOLS MACHINE" ∷
    codes "usage: brake setups PART TOOLS MACHINE SETUPS CERT" ∷
    codes "usage: brake settle PART TOOLS MACHINE OUT LOW HIGH [BASE]" ∷
    codes "usage: brake merge TABLE TABLE OUT" ∷
    codes "usage: brake prove TABLE" ∷
    []

-- a line ends with a line feed
unfoldable pub ended_line : List ℕ → List ℕ
ended_line line = line ++ codes "\n"

unfoldable pub usage_text : List ℕ
usage_text = flat_map ended_line usage_lines

-- the answer to words that have no form
abbrev pub usage : AnswerData
usage = one_text status.Usage usage_text

-- what each command answers to its words and the contents of its files
abbrev pub meaning_of : Command → Meaning
meaning_of (Blank part tools) words contents answer = answer ≡ blank_answer contents
meaning_of (Plan part tools machine cert budget) words contents answer =
    IsPlanAnswer (word_at words cert) budget contents answer
meaning_of (Check cert) words contents answer = IsCheckAnswer contents answer
meaning_of (CheckFiles cert part tools machine) words contents answer =
    IsCheckFilesAnswer contents answer
meaning_of (Trial n) words contents answer = IsTrialAnswer n answer
meaning_of (Why part tools machine) words contents answer = IsWhyAnswer contents answer
meaning_of (Setups part tools machine setups cert) words contents answer =
    IsSetupsAnswer (word_at words cert) contents answer
meaning_of (Settle part tools machine out low high None) words contents answer =
    IsSettleAnswer (word_at words out) low high contents answer
meaning_of (Settle part tools machine out low high (Some base)) words contents answer =
    IsSettleOverAnswer (word_at words out) low high contents answer
meaning_of (Merge a b out) words contents answer = IsMergeAnswer (word_at words out) contents answer
meaning_of (Prove table) words contents answer = IsProveAnswer contents answer

-- the command reads its first file itself, in pieces
abbrev pub reads_in_pieces : Command → Bool
reads_in_pieces (Check cert) = true
reads_in_pieces (CheckFiles cert part tools machine) = true
reads_in_pieces (Prove table) = true
reads_in_pieces _ = false

-- the kinds of the words of such a command
abbrev pub piece_kinds : PieceCommand → List WordKind
piece_kinds piece.Check = kinds_of form.Check
piece_kinds piece.CheckFiles = kinds_of form.CheckFiles
piece_kinds piece.Prove = kinds_of form.Prove

-- what it answers to the contents of its files
abbrev pub piece_meaning : PieceCommand → Meaning
piece_meaning piece.Check words contents answer = IsCheckAnswer contents answer
piece_meaning piece.CheckFiles words contents answer = IsCheckFilesAnswer contents answer
piece_meaning piece.Prove words contents answer = IsProveAnswer contents answer

-- the command stores texts before its answer is given back
abbrev pub stores_in_turn : Command → Bool
stores_in_turn (Plan part tools machine cert budget) = true
stores_in_turn (Setups part tools machine setups cert) = true
stores_in_turn (Settle part tools machine out low high base) = true
stores_in_turn (Merge a b out) = true
stores_in_turn _ = false

-- what each command may have stored while it has given no answer: nothing, but `plan` the certificate
-- of one of its answers, `setups` those of the first setups, `settle` and `merge` the table of one of
-- their answers
abbrev pub begins_of : Command → Beginning
begins_of (Plan part tools machine cert budget) words contents stored =
    IsStoredOf (IsPlanAnswer (word_at words cert) budget contents) stored
begins_of (Setups part tools machine setups cert) words contents stored =
    IsSetupsBeginning (word_at words cert) contents stored
begins_of (Settle part tools machine out low high None) words contents stored =
    IsStoredOf (IsSettleAnswer (word_at words out) low high contents) stored
begins_of (Settle part tools machine out low high (Some base)) words contents stored =
    IsStoredOf (IsSettleOverAnswer (word_at words out) low high contents) stored
begins_of (Merge a b out) words contents stored =
    IsStoredOf (IsMergeAnswer (word_at words out) contents) stored
begins_of _ words contents stored = ⊥
