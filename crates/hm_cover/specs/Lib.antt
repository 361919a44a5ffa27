pub mod Theorem
pub mod Merges
