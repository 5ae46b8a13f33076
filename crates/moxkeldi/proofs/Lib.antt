pub mod Bounding
pub mod Telling
