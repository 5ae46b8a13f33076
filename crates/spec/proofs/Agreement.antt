-- The kit: when a reader reads a language.
pub mod Signs
pub mod Reads
pub mod Chars
pub mod Words
pub mod Holds
pub mod Choices
pub mod UpTo
pub mod Loops
pub mod Runs
pub mod FirstSign
pub mod Whole
pub mod Algebra
pub mod Wider
pub mod Texts
pub mod Tame
pub mod Accepts
