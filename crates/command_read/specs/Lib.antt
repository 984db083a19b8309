pub mod Words
pub mod Blocks
pub mod Verbs
pub mod Refusals
pub mod Parts
pub mod Forms
pub mod Reading
pub mod Later
