-- What equations of stored numbers cite.
use Rattle.std.proofs.Common.{◌≡◌, ℤ, w64, SFits, to_z, of_z, ◌∙◌}
use Rattle.std.proofs.lemmas.Int.{to_z-of_z}

pub ruleset signed = (to_z-of_z)

-- a number that is stored is that number
pub stored : (z x : ℤ) → SFits w64 z → z ≡ x → to_z w64 (of_z w64 z) ≡ x
stored z x fits e = to_z-of_z w64 z fits ∙ e
