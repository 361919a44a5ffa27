pub mod Broken
pub mod Copies
pub mod Editions
pub mod OwnValid
pub mod Places
pub mod Sheets
pub mod ValidSheets
pub mod Walks
