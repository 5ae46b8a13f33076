pub mod Words
pub mod Runs
pub mod Finding
pub mod Stopping
pub mod Placing
pub mod Outside
