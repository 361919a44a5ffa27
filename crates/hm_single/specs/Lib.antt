pub mod Calls
pub mod Picking
pub mod Theorem
