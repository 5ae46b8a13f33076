pub mod Finishing
pub mod Looping
