-- What readers of signed numbers cite.
use Rattle.std.proofs.lemmas.Int.{to_z-of_z}

pub ruleset signed = (to_z-of_z)
