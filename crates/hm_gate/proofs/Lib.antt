pub mod Totals
pub mod Chairs
pub mod Prefixes
pub mod Owed
pub mod Keeps
pub mod Ends
pub mod Weighing
