pub mod Counts
pub mod Ending
pub mod Loop
pub mod OneTurn
pub mod Solving
pub mod Steps
pub mod ToGo
