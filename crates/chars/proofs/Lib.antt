pub mod Steps
pub mod Bytes
pub mod DigitRuns
pub mod CharRefs
pub mod Checks
pub mod Agreed
