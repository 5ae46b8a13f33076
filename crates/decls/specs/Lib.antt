pub mod Items
pub mod Pieces
