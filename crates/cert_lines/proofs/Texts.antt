-- What texts made of pieces cite.
use Rattle.std.proofs.Common.{append_assoc}
use Rattle.std.proofs.lemmas.Int.{to_z-of_z}
use Rattle.std.proofs.lemmas.List.Folds.{flat_map-map}
use Rattle.std.proofs.lemmas.Grind.{flat_map-append}

pub ruleset pieces = (append_assoc, to_z-of_z, flat_map-append, flat_map-map)
