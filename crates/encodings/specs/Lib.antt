pub mod Codings
pub mod Ends
pub mod Names
