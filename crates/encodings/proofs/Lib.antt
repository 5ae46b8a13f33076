pub mod Naming
pub mod Looking
pub mod Reached
pub mod Ending
pub mod Finding
