pub mod State
pub mod Taking
