pub mod Ranges
pub mod Holes
pub mod Laws
pub mod Live
