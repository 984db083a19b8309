pub mod Open
pub mod Dominance
pub mod Share
pub mod Gap
pub mod Weighing
pub mod Test
pub mod Compared
