pub mod Bytes
pub mod Digits
pub mod References
pub mod Rules
