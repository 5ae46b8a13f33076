pub mod Points
pub mod Decoding
pub mod Windows
pub mod Parts
