-- The words of the commands: their forms, and the command that words of a form say.
use Rattle.std.specs.Prelude.{ℕ, List, [], ◌∷◌, Option, Some, None, option_map}
use Rattle.std.specs.Prelude.{option_and_then, if◌then◌else◌}
use Rattle.command_runner.specs.declared.word_kind.WordKind.{WordKind}
use Rattle.command_runner.specs.declared.word_kind.WordKind.TheVariants.{Literal, Input}
use Rattle.command_runner.specs.declared.word_kind.WordKind.TheVariants.{Certificate, Table, Output}
use Rattle.command_runner.specs.declared.word_kind.WordKind.TheVariants.{NumberedOutput, Number}
use Rattle.command_runner.specs.declared.word_kind.Keyword.TheVariants as word
use Rattle.command_runner.specs.Kinds.{number_in, is_form}
use Rattle.command_runner.specs.Fetching.{word_at}
use Rattle.brake_commands.specs.declared.form.Form.{Form}
use Rattle.brake_commands.specs.declared.form.Form.TheVariants as form
use Rattle.brake_commands.specs.declared.command.Command.{Command}
use Rattle.brake_commands.specs.declared.command.Command.TheVariants.{Blank, Plan, Check, CheckFiles}
use Rattle.brake_commands.specs.declared.command.Command.TheVariants.{Trial, Why, Setups, Settle, Merge}
use Rattle.brake_commands.specs.declared.command.Command.TheVariants.{Prove}

-- the kinds of the words of each form
abbrev pub kinds_of : Form → List WordKind
kinds_of form.Blank = Literal word.Blank ∷ Input ∷ Input ∷ []
kinds_of form.Plan = Literal word.Plan ∷ Input ∷ Input ∷ Input ∷ Output ∷ []
kinds_of form.PlanWithin =
    Literal word.Plan ∷ Input ∷ Input ∷ Input ∷ Output ∷ Literal word.Budget ∷ Number ∷ []
kinds_of form.Check = Literal word.Check ∷ Certificate ∷ []
kinds_of form.CheckFiles = Literal word.Check ∷ Certificate ∷ Input ∷ Input ∷ Input ∷ []
kinds_of form.Trial = Literal word.Trial ∷ Number ∷ []
kinds_of form.Why = Literal word.Why ∷ Input ∷ Input ∷ Input ∷ []
kinds_of form.Setups =
    Literal word.Setups ∷ Input ∷ Input ∷ Input ∷ Input ∷ NumberedOutput ∷ []
kinds_of form.Settle =
    Literal word.Settle ∷ Input ∷ Input ∷ Input ∷ Output ∷ Number ∷ Number ∷ []
kinds_of form.SettleOver =
    Literal word.Settle ∷ Input ∷ Input ∷ Input ∷ Output ∷ Number ∷ Number ∷ Table ∷ []
kinds_of form.Merge = Literal word.Merge ∷ Table ∷ Table ∷ Output ∷ []
kinds_of form.Prove = Literal word.Prove ∷ Table ∷ []

abbrev pub forms : List Form
forms =
    form.Blank ∷ form.Plan ∷ form.PlanWithin ∷ form.Check ∷ form.CheckFiles ∷ form.Trial ∷
    form.Why ∷ form.Setups ∷ form.Settle ∷ form.SettleOver ∷ form.Merge ∷ form.Prove ∷ []

-- `settle` over the table at a place or over none; LOW and HIGH are sets of at most 12 bends
abbrev pub settle_in : Option ℕ → List (List ℕ) → Option Command
settle_in base words =
    option_and_then (λ low. option_map (λ high. Settle 1 2 3 4 low high base)
    (number_in 0 4095 (word_at words 6))) (number_in 0 4095 (word_at words 5))

-- the command that words of a form say, by the places of its words and by its numbers; none where a
-- number isn't in its range
abbrev pub read_as : Form → List (List ℕ) → Option Command
read_as form.Blank words = Some (Blank 1 2)
read_as form.Plan words = Some (Plan 1 2 3 4 None)
read_as form.PlanWithin words =
    option_map (λ n. Plan 1 2 3 4 (Some n)) (number_in 1 4294967295 (word_at words 6))
read_as form.Check words = Some (Check 1)
read_as form.CheckFiles words = Some (CheckFiles 1 2 3 4)
read_as form.Trial words = option_map Trial (number_in 0 4294967295 (word_at words 1))
read_as form.Why words = Some (Why 1 2 3)
read_as form.Setups words = Some (Setups 1 2 3 4 5)
read_as form.Settle words = settle_in None words
read_as form.SettleOver words = settle_in (Some 7) words
read_as form.Merge words = Some (Merge 1 2 3)
read_as form.Prove words = Some (Prove 1)

-- the form of a command's words
abbrev pub form_of : Command → Form
form_of (Blank part tools) = form.Blank
form_of (Plan part tools machine cert None) = form.Plan
form_of (Plan part tools machine cert (Some budget)) = form.PlanWithin
form_of (Check cert) = form.Check
form_of (CheckFiles cert part tools machine) = form.CheckFiles
form_of (Trial n) = form.Trial
form_of (Why part tools machine) = form.Why
form_of (Setups part tools machine setups cert) = form.Setups
form_of (Settle part tools machine out low high None) = form.Settle
form_of (Settle part tools machine out low high (Some base)) = form.SettleOver
form_of (Merge a b out) = form.Merge
form_of (Prove table) = form.Prove

-- the command by the first of some forms that the words have
abbrev pub read_by : List Form → List (List ℕ) → Option Command
read_by [] words = None
read_by (form ∷ forms) words =
    if is_form (kinds_of form) words then read_as form words else read_by forms words

-- the command that the words say; none where they have no form, or a number isn't in its range
unfoldable pub command_of : List (List ℕ) → Option Command
command_of words = read_by forms words
