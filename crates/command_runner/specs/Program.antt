-- A program's words, and the number with which its process ends.
use Rattle.std.specs.Prelude.{ℕ, List, [], drop, map, string_bytes, String, Result, Ok, Err}
use Rattle.std.specs.Vec.Iter.{into_iter_items}
use Rattle.std.specs.declared.alloc.Global.{Global}
use Rattle.std.specs.declared.vec.IntoIter.{IntoIter}
use Rattle.command_runner.specs.declared.status.Status.{Status}
use Rattle.command_runner.specs.declared.status.Status.TheVariants.{Done, NoPlan, Usage, Refused}
use Rattle.command_runner.specs.declared.status.Status.TheVariants.{Spent, CertRefused, Fault}
use Rattle.command_runner.specs.declared.status.Status.TheVariants.{NoMemory}

-- the arguments as the system gives them; none where they can't be read
abbrev pub arguments_of : {E : Type 0} → Result (IntoIter (String Global) Global) E
    → List (String Global)
arguments_of (Ok args) = into_iter_items args
arguments_of (Err fault) = []

-- the words: the arguments behind the program's name, which is the first
abbrev pub words_of : {E : Type 0} → Result (IntoIter (String Global) Global) E → List (List ℕ)
words_of args = map string_bytes (drop 1 (arguments_of args))

-- the number of a status
abbrev pub status_number : Status → ℕ
status_number Done = 0
status_number NoPlan = 1
status_number Usage = 2
status_number Refused = 3
status_number Spent = 4
status_number CertRefused = 5
status_number Fault = 6
status_number NoMemory = 7
