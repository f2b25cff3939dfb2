pub mod CheapestLemmas
pub mod CostLemmas
pub mod SumLemmas
pub mod TestedLemmas
pub mod WordLemmas
