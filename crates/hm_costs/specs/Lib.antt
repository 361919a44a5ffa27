pub mod Met
pub mod Theorem
