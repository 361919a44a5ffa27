pub mod Recording
pub mod Faults
pub mod Hall
