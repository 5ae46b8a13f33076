pub mod Seen
pub mod Passed
pub mod Window
