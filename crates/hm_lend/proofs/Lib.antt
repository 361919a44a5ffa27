pub mod Stopping
pub mod Lending
pub mod Tied
pub mod Calls
