pub mod Flushing
pub mod Pieces
pub mod View
