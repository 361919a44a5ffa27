mod Filled
mod Fronts
mod Calls
pub mod Moments
pub mod Splice
mod Walks
