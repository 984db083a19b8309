pub mod ScoreLemmas
pub mod ShareLemmas
pub mod WeightLemmas
