mod LaneLemmas
mod StageLemmas
mod PlaceLemmas
mod SetLemmas
pub mod CodeLemmas
mod BendLemmas
