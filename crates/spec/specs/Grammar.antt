-- The written grammar, from W3C XML 1.0 and Namespaces in XML 1.0. In reading order.
pub mod Utf8
pub mod Languages
pub mod Characters
pub mod References
pub mod Names
pub mod Ranges
pub mod AppendixB
pub mod FifthEdition
pub mod Literals
pub mod ContentModels
pub mod Declarations
pub mod Doctype
pub mod XmlDecl
pub mod Division
pub mod Encodings
pub mod Prolog
