-- What the readers of a table cite.
use Rattle.toml_fields.proofs.Sizes.{sizes}

pub ruleset reading = (sizes)
