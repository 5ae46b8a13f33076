pub mod Admitting
pub mod Placing
