pub mod Trees
pub mod Kept
pub mod Changes
pub mod Book
pub mod Below
pub mod Procedures
pub mod OldRoots
