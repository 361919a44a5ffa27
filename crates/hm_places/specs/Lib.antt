pub mod Chosen
pub mod Places
pub mod Servers
pub mod Laws
