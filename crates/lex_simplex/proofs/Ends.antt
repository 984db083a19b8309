pub mod Same
pub mod Empty
pub mod Existence
pub mod Optimal
pub mod OptimalCertificate
pub mod Outcomes
pub mod Weights
