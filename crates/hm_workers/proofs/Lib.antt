pub mod Asked
pub mod Owing
pub mod Staying
pub mod Running
pub mod Each
