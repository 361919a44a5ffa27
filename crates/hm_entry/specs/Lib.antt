pub mod Spelling
pub mod Fits
pub mod Sizes
pub mod Reading
