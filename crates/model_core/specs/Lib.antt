pub mod Names
pub mod Categories
pub mod Lists
pub mod State
pub mod Finding
pub mod Edits
pub mod Whole
