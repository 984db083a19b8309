pub mod ResultLemmas
pub mod SessionLemmas
