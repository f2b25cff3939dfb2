-- A set of stages by its bits.
use Rattle.std.specs.Prelude.{◌≡◌, ℕ, ◌<◌, Bool, ◌==◌}
use Rattle.std.specs.Int.{bit_at}
use Rattle.stage_lanes.specs.declared.stages.StageSet.{StageSet}

-- stage s is in the set where bit s is set
unfoldable pub has : StageSet → ℕ → Bool
has stages stage = bit_at stages.0 stage == 1

-- of the eight stages those are in the set of which this holds
abbrev pub AreStages : StageSet → (ℕ → Bool) → Type 0
AreStages stages holds = (stage : ℕ) → stage < 8 → has stages stage ≡ holds stage
