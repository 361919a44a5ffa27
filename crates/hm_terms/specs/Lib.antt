pub mod Refusals
pub mod Travels
pub mod Theorem
