pub mod Columns
pub mod Equations
pub mod Independence
pub mod Kept
pub mod Rows
pub mod Values
