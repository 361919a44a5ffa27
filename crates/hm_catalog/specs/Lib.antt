pub mod Regions
pub mod Rows
pub mod Kept
pub mod Spans
pub mod Deeds
pub mod Merges
pub mod Laws
