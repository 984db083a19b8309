pub mod CellLists
pub mod Choices
pub mod Ends
pub mod Pivots
pub mod Readings
pub mod Runs
pub mod Tableaus
