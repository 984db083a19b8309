pub mod Steps
pub mod Pointers
pub mod Reading
pub mod Writing
pub mod Text
pub mod Kept
