pub mod Code
pub mod Session
pub mod SessionLaw
