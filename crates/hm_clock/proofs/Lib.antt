pub mod Raised
pub mod Turned
pub mod Clocks
