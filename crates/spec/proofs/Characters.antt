-- UTF-8, texts and classes of characters.
pub mod Utf8
pub mod Text
pub mod Bytes
pub mod Valid
pub mod LegalBytes
pub mod AsciiNames
pub mod Ranges
pub mod AppendixB
pub mod FifthEdition
