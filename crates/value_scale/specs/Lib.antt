pub mod Anchor
pub mod Basic
pub mod Fault
pub mod GapSums
pub mod Narrowing
pub mod Same
pub mod Slack
