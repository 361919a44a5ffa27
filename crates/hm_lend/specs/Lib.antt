pub mod Outs
pub mod Recording
pub mod Hall
pub mod Ties
pub mod Stays
