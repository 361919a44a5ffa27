pub mod Learnt
pub mod Lines
pub mod Own
pub mod Registry
pub mod Words
