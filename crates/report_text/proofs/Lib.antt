pub mod CertLemmas
pub mod LineLemmas
pub mod LineParts
pub mod PairLemmas
pub mod ReplyLines
