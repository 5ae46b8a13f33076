-- The beginning of a document: the order of reading accepts exactly the documents that begin as the grammar says, and what it accepts or
-- refuses of a beginning stands, whatever follows.
pub mod Legal
pub mod Declared
pub mod Declaration
pub mod Misc
pub mod Doctype
pub mod Prolog
pub mod Tag
pub mod Agrees
pub mod Verdict
pub mod Encoding
pub mod Right
pub mod Front
pub mod Whole
pub mod Within
pub mod Located
pub mod Told
pub mod Steady
pub mod Closed
pub mod Known
pub mod Stands
pub mod Marks
pub mod Wider
