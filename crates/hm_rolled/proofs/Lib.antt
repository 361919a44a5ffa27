mod Itself
pub mod Recorded
mod Rebasing
mod Fronts
mod Calls
mod Told
mod Held
mod Points
