pub mod InOrder
pub mod InPieces
pub mod Ordered
pub mod Sorting
pub mod Stable
