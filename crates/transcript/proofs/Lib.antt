pub mod EntriesLemmas
pub mod BlockLemmas
pub mod FirstLemmas
pub mod TranscriptLemmas
pub mod TableLemmas
pub mod TurnLemmas
pub mod ReachedLemmas
pub mod EndLemmas
