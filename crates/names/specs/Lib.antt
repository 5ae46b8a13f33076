pub mod Names
pub mod NamePart
