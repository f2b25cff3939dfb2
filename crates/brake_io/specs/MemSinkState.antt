-- A sink in memory as its callers see it.
use Rattle.std.specs.Prelude.{◌≡◌, ℕ, List, Option, Some}
use Rattle.brake_io.specs.Rose.{raised}
use Rattle.brake_io.specs.Meanings.{SinkState}

-- the put that fails, counted from 1, and how many bytes it takes first
pub record FailurePlace : Type 0 where
  pub call : ℕ
  pub taken : ℕ

-- what was written, how many puts there were, the put that is to fail, and the count of faults
pub record MemSinkState : Type 0 where
  pub written : List ℕ
  pub calls : ℕ
  pub fails_at : Option FailurePlace
  pub faults : ℕ

-- what is seen of it as a sink
abbrev pub seen : MemSinkState → SinkState
seen s = record { written = Some s.written; faults = s.faults }

-- the next put is the one that is to fail, after so many bytes
abbrev pub IsToFailAfter : MemSinkState → ℕ → Type 0
IsToFailAfter s taken = s.fails_at ≡ Some (record { call = raised s.calls; taken = taken })
