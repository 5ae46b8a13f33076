pub mod PlaceLaws
pub mod Calls
