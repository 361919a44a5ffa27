pub mod Stacks
pub mod Kept
pub mod Laws
