pub mod Fits
pub mod Live
pub mod Whole
pub mod Read
