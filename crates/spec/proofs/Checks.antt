-- checks.rs: check_declaration accepts exactly what the grammar derives, and is_ncname says yes exactly to an NCName.
pub mod NCNames
pub mod Values
pub mod XmlDecl
