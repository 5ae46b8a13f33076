pub mod Spaces
pub mod Eating
pub mod Parts
pub mod Reading
pub mod Quotes
pub mod Checking
pub mod Barred
pub mod UpTo
