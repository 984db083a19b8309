pub mod Outside
pub mod Lines
pub mod Window
pub mod Cursor
pub mod Memory
pub mod Never
pub mod Stock
pub mod Standard
