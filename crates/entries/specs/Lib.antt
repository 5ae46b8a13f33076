pub mod Kinds
pub mod Walk
pub mod Left
