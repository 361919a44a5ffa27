mod Behind
pub mod Deciding
mod Stopping
