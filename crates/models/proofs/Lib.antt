pub mod Signs
pub mod Occurs
pub mod Groups
pub mod Contentspecs
