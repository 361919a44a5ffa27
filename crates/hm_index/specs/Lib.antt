pub mod Index
pub mod Blocks
