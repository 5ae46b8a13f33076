pub mod Valuing
pub mod Equating
pub mod Declaring
pub mod Chaining
