pub mod Ending
pub mod Whole
