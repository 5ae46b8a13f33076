pub mod Spaced
pub mod Words
