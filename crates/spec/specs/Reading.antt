-- The written order of reading, from the Rust: which refusal is met first. In reading order.
pub mod Refusals
pub mod Utf8
pub mod Readers
pub mod Places
pub mod Source
pub mod Wellformed
pub mod Dtd
pub mod Checks
pub mod Scan
pub mod Entries
pub mod Gate
pub mod Document
pub mod Verdict
