-- wellformed.rs: its checks accept exactly what the grammar derives.
pub mod Names
pub mod LongestName
pub mod Digits
pub mod References
pub mod Walks
pub mod Checks
