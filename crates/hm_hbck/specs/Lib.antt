pub mod Findings
pub mod Found
pub mod Holes
pub mod Pairs
