pub mod Score
pub mod Weights
