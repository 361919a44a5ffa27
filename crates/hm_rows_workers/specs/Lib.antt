pub mod Tasks
pub mod Tied
