-- Why the files of a command aren't fetched.
use Rattle.std.specs.Prelude.{ℕ, List, map, Vec, Result, Ok, Err}
use Rattle.std.specs.Vec.{vec_items}
use Rattle.std.specs.declared.alloc.Global.{Global}
use Rattle.command_runner.specs.declared.fetching.FetchStop.{FetchStop}
use Rattle.command_runner.specs.declared.fetching.FetchStop.TheVariants.{TooLong, Fault, NoMemory}

-- a fact of the number of the file that is too long, if there is one
abbrev pub OnTooLong : FetchStop → (ℕ → Type 0) → Type 0
OnTooLong (TooLong number) P = P number
OnTooLong Fault P = Unit {0}
OnTooLong NoMemory P = Unit {0}

-- a fact of the contents of all files, or of the number of one that is too long, if there are any
abbrev pub OnFetched : Result (Vec (Vec ℕ Global) Global) FetchStop
    → (Result (List (List ℕ)) ℕ → Type 0) → Type 0
OnFetched (Ok contents) P = P (Ok (map vec_items contents.items))
OnFetched (Err stop) P = OnTooLong stop (λ number. P (Err number))
