-- Where readers stop: at a place of the text.
pub mod Ways
pub mod Readers
pub mod Checks
pub mod Chars
