pub mod WordLemmas
pub mod NumberLemmas
pub mod FractionLemmas
pub mod LawLemmas
pub mod ReadValues
