pub mod Drawn
pub mod Ids
