pub mod Facts
pub mod Apart
pub mod Claiming
pub mod Servers
pub mod Births
pub mod Lineage
pub mod Known
pub mod From
pub mod Serving
pub mod Storing
pub mod Appending
pub mod Fronts
pub mod Rolling
pub mod Tails
pub mod Opening
pub mod Keeping
pub mod Ranges
pub mod Points
pub mod Fleets
pub mod Progress
pub mod Measure
pub mod Raising
pub mod Clashing
pub mod Going
pub mod Resting
pub mod Idle
mod Based
mod Held
mod Findings
mod Pairs
pub mod Layouts
