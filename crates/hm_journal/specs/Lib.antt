pub mod Judged
pub mod Opened
pub mod Since
pub mod Stored
pub mod Verdict
pub mod View
