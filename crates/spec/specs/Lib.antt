pub mod Basics
pub mod Grammar
pub mod Reading
pub mod Unread
pub mod Premise
pub mod Promises
pub mod Rows
pub mod Conditions
