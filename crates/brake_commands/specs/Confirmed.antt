-- `check` confirms each good certificate.
use Rattle.std.specs.Prelude.{⊤, ℕ, List, Option, Some}
use Rattle.command_runner.specs.declared.status.Status.{Status}
use Rattle.command_runner.specs.Fetching.{word_at}
use Rattle.command_runner.specs.Delivery.{Outside}
use Rattle.check_command.specs.Confirmed.{ConfirmsNamed}
use Rattle.brake_commands.specs.declared.command.Command.{Command}
use Rattle.brake_commands.specs.declared.command.Command.TheVariants.{Check}
use Rattle.brake_commands.specs.Forms.{command_of}

-- a good certificate in the file of the word behind `check` is confirmed
abbrev pub ConfirmsHeldBy : Option Command → List (List ℕ) → Outside → Outside → Status → Type 0
ConfirmsHeldBy (Some (Check place)) words before now status =
    ConfirmsNamed (word_at words 1) before now status
ConfirmsHeldBy _ words before now status = ⊤

abbrev pub ConfirmsHeld : List (List ℕ) → Outside → Outside → Status → Type 0
ConfirmsHeld words before now status = ConfirmsHeldBy (command_of words) words before now status
