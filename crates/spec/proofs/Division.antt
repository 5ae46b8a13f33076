-- The division of the subset, and every cut.
pub mod Quoting
pub mod Parts
pub mod FrontParts
pub mod Clear
pub mod Scans
pub mod Parting
pub mod Delimited
pub mod Places
pub mod Covers
pub mod Unread
pub mod Promised
