pub mod Keywords
pub mod Looking
pub mod Defining
pub mod Otherwise
