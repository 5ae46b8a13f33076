pub mod Hyphens
pub mod DeclBody
pub mod Targets
