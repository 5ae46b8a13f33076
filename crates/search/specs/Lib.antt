pub mod Runs
pub mod FirstPlace
pub mod Places
